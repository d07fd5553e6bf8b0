use Rattle.std.proofs.Common.{take}
use Rattle.plan_desk.specs.Written.{HasPut}
use Rattle.plan_desk.specs.Written.Way.{writing}
use Rattle.certificate_lines.specs.Spelling.{words}
use Rattle.certificate_lines.proofs.write.write_words.Given as goal

abbrev pub invariant-loop-number : goal.invariant-loop-number
invariant-loop-number g l =
    HasPut writing (words (take l.number-index l.numbers)) (g.D.Desk.shows l.fn.desk) (g.D.Desk.shows l.desk)
