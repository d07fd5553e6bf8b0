use Rattle.std.proofs.Common.{◌≡◌}
use Rattle.instance_gen.specs.Drawing.{with_run}
use Rattle.instance_gen.proofs.draws.RunDraws.draw_run.Given as goal

abbrev pub invariant-loop-k : goal.invariant-loop-k
invariant-loop-k l = l.self ≡ with_run l.s l.k l.fn.self
