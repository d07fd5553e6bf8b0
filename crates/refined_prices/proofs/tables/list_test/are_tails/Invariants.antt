use Rattle.std.proofs.Common.{ℕ, ◌+◌, ◌<◌}
use Rattle.refined_prices.specs.tables.ListTests.{IsTailAt}
use Rattle.refined_prices.proofs.tables.list_test.are_tails.Given as goal

abbrev pub invariant-loop-u : goal.invariant-loop-u
invariant-loop-u l = (u : ℕ) → u < l.u → IsTailAt l.inst l.tails (u + 1)
