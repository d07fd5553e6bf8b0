use Rattle.std.proofs.Common.{take}
use Rattle.plan_desk.specs.Written.{HasPut}
use Rattle.plan_desk.specs.Written.Way.{writing}
use Rattle.certificate_lines.specs.Spelling.{words}
use Rattle.certificate_lines.proofs.write.write_places.Given as goal

abbrev pub invariant-loop-place : goal.invariant-loop-place
invariant-loop-place g l =
    HasPut writing (words (take l.place-index l.places)) (g.D.Desk.shows l.fn.desk) (g.D.Desk.shows l.desk)
