use Rattle.std.proofs.Common.{◌≡◌, take, map}
use Rattle.certificate_text.specs.Text.{text_of_lines, ex_line}
use Rattle.certificate_text.specs.Lengths.{counted_length}
use Rattle.certificate_text.proofs.entry_lengths.exs_length.Given as goal

abbrev pub invariant-loop-x : goal.invariant-loop-x
invariant-loop-x l = l.total ≡ counted_length (text_of_lines (map ex_line (take l.x-index l.ex)))
