use Rattle.std.proofs.Common.{◌≡◌, take}
use Rattle.certificate_text.specs.Text.{text_of_lines, tail_lines}
use Rattle.certificate_text.specs.Lengths.{counted_length}
use Rattle.certificate_text.proofs.entry_lengths.tails_length.Given as goal

abbrev pub invariant-loop-u : goal.invariant-loop-u
invariant-loop-u l = l.total ≡ counted_length (text_of_lines (tail_lines 1 (take l.u l.prices.tails)))
