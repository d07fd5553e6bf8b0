use Rattle.std.proofs.Common.{take}
use Rattle.certificate_text.specs.Text.{tail_lines}
use Rattle.certificate_text.proofs.WriteLemmas.{HasLines}
use Rattle.certificate_text.proofs.entries.write_tails.Given as goal

abbrev pub invariant-loop-u : goal.invariant-loop-u
invariant-loop-u g l =
    HasLines (tail_lines 1 (take l.u l.prices.tails)) (g.D.Desk.shows l.fn.desk) (g.D.Desk.shows l.desk)
