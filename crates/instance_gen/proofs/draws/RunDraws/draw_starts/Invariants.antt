use Rattle.std.proofs.Common.{◌≡◌}
use Rattle.instance_gen.specs.Drawing.{with_starts}
use Rattle.instance_gen.proofs.draws.RunDraws.draw_starts.Given as goal

abbrev pub invariant-loop-k : goal.invariant-loop-k
invariant-loop-k l = l.self ≡ with_starts l.durations l.k l.fn.self
