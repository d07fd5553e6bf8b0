use Rattle.std.proofs.Common.{take}
use Rattle.plan_desk.specs.Written.{HasPut}
use Rattle.plan_desk.specs.Written.Way.{writing}
use Rattle.refined_text.specs.text.Steps.{group_words}
use Rattle.refined_text.proofs.text.put.write_members.Given as goal

abbrev pub invariant-loop-member : goal.invariant-loop-member
invariant-loop-member g l =
    HasPut writing (group_words (take l.member-index l.group)) (g.D.Desk.shows l.fn.desk) (g.D.Desk.shows l.desk)
