use Rattle.std.proofs.Common.{◌*◌, take}
use Rattle.certificate_text.specs.Text.{limit_lines}
use Rattle.certificate_text.specs.Steps.{limit_form, limit_table}
use Rattle.certificate_text.proofs.WriteLemmas.{HasLines}
use Rattle.certificate_text.proofs.entries.write_limits.Given as goal

abbrev pub invariant-loop-c : goal.invariant-loop-c
invariant-loop-c g l = HasLines
    (limit_lines (limit_form l.side) l.inst.periods 0 (take (l.c * l.inst.periods) (limit_table l.side l.prices)))
    (g.D.Desk.shows l.fn.desk) (g.D.Desk.shows l.desk)
