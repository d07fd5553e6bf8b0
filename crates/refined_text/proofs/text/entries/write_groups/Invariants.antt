use Rattle.std.proofs.Common.{take}
use Rattle.plan_desk.specs.Written.{HasPut}
use Rattle.plan_desk.specs.Written.Way.{writing}
use Rattle.refined_text.specs.text.Steps.{group_texts}
use Rattle.refined_text.proofs.text.entries.write_groups.Given as goal

abbrev pub invariant-loop-group : goal.invariant-loop-group
invariant-loop-group g l =
    HasPut writing (group_texts l.t (take l.group-index l.groups)) (g.D.Desk.shows l.fn.desk) (g.D.Desk.shows l.desk)
