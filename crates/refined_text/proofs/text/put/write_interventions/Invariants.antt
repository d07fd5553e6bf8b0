use Rattle.std.proofs.Common.{take}
use Rattle.plan_desk.specs.Written.{HasPut}
use Rattle.plan_desk.specs.Written.Way.{writing}
use Rattle.refined_text.specs.text.Steps.{clique_words}
use Rattle.refined_text.proofs.text.put.write_interventions.Given as goal

abbrev pub invariant-loop-i : goal.invariant-loop-i
invariant-loop-i g l =
    HasPut writing (clique_words (take l.i-index l.members)) (g.D.Desk.shows l.fn.desk) (g.D.Desk.shows l.desk)
