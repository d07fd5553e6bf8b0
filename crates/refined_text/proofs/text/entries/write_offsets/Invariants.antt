use Rattle.std.proofs.Common.{take}
use Rattle.plan_desk.specs.Written.{HasPut}
use Rattle.plan_desk.specs.Written.Way.{writing}
use Rattle.refined_text.specs.text.Steps.{offset_texts}
use Rattle.refined_text.proofs.text.entries.write_offsets.Given as goal

abbrev pub invariant-loop-x : goal.invariant-loop-x
invariant-loop-x g l =
    HasPut writing (offset_texts (take l.x-index l.offsets)) (g.D.Desk.shows l.fn.desk) (g.D.Desk.shows l.desk)
