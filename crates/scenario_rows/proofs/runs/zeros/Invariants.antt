use Rattle.std.proofs.Common.{◌≡◌, pos}
use Rattle.fixed_num.specs.Sums.{list_of}
use Rattle.scenario_rows.proofs.runs.zeros.Given as goal

abbrev pub invariant-loop-k : goal.invariant-loop-k
invariant-loop-k l = l.sums.items ≡ list_of l.k (λ j. pos 0)
