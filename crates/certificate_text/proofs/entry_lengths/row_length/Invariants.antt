use Rattle.std.proofs.Common.{◌≡◌, ◌*◌, take, drop}
use Rattle.certificate_text.specs.Text.{text_of_lines, limit_lines}
use Rattle.certificate_text.specs.Steps.{limit_form, limit_table}
use Rattle.certificate_text.specs.Lengths.{counted_length}
use Rattle.certificate_text.proofs.entry_lengths.row_length.Given as goal

abbrev pub invariant-loop-u : goal.invariant-loop-u
invariant-loop-u l = l.total ≡ counted_length (text_of_lines
    (limit_lines (limit_form l.side) l.inst.periods (l.c * l.inst.periods)
    (take l.u (take l.inst.periods (drop (l.c * l.inst.periods) (limit_table l.side l.prices))))))
