use Rattle.std.proofs.Common.{take, map}
use Rattle.certificate_text.specs.Text.{ex_line}
use Rattle.certificate_text.proofs.WriteLemmas.{HasLines}
use Rattle.certificate_text.proofs.entries.write_ex.Given as goal

abbrev pub invariant-loop-x : goal.invariant-loop-x
invariant-loop-x g l = HasLines (map ex_line (take l.x-index l.ex)) (g.D.Desk.shows l.fn.desk) (g.D.Desk.shows l.desk)
