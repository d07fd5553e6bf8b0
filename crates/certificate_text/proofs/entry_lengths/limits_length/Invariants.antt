use Rattle.std.proofs.Common.{◌≡◌, ◌*◌, take}
use Rattle.certificate_text.specs.Text.{text_of_lines, limit_lines}
use Rattle.certificate_text.specs.Steps.{limit_form, limit_table}
use Rattle.certificate_text.specs.Lengths.{counted_length}
use Rattle.certificate_text.proofs.entry_lengths.limits_length.Given as goal

abbrev pub invariant-loop-c : goal.invariant-loop-c
invariant-loop-c l = l.total ≡ counted_length (text_of_lines
    (limit_lines (limit_form l.side) l.inst.periods 0 (take (l.c * l.inst.periods) (limit_table l.side l.prices))))
