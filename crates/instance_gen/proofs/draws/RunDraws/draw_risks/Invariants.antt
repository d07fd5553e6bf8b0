use Rattle.std.proofs.Common.{◌≡◌}
use Rattle.instance_gen.specs.Drawing.{with_risks}
use Rattle.instance_gen.proofs.draws.RunDraws.draw_risks.Given as goal

abbrev pub invariant-loop-k : goal.invariant-loop-k
invariant-loop-k l = l.self ≡ with_risks l.k l.fn.self
