use Rattle.std.proofs.Common.{◌≡◌}
use Rattle.instance_gen.specs.Drawing.{interventions_of}
use Rattle.instance_gen.proofs.draws.draw_interventions.Given as goal

abbrev pub invariant-loop-k : goal.invariant-loop-k
invariant-loop-k l = l.draws ≡ interventions_of l.seed l.k
