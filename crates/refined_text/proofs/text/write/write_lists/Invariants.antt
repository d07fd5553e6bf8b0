use Rattle.std.proofs.Common.{take}
use Rattle.plan_desk.specs.Written.{HasPut}
use Rattle.plan_desk.specs.Written.Way.{writing}
use Rattle.refined_text.specs.text.Steps.{list_texts}
use Rattle.refined_text.proofs.text.write.write_lists.Given as goal

abbrev pub invariant-loop-list : goal.invariant-loop-list
invariant-loop-list g l =
    HasPut writing (list_texts l.inst (take l.list-index l.lists)) (g.D.Desk.shows l.fn.desk) (g.D.Desk.shows l.desk)
