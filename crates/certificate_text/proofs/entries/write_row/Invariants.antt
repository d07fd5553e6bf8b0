use Rattle.std.proofs.Common.{◌*◌, take, drop}
use Rattle.certificate_text.specs.Text.{limit_lines}
use Rattle.certificate_text.specs.Steps.{limit_form, limit_table}
use Rattle.certificate_text.proofs.WriteLemmas.{HasLines}
use Rattle.certificate_text.proofs.entries.write_row.Given as goal

abbrev pub invariant-loop-u : goal.invariant-loop-u
invariant-loop-u g l =
    let periods = l.inst.periods in
    HasLines (limit_lines (limit_form l.side) periods (l.c * periods)
    (take l.u (take periods (drop (l.c * periods) (limit_table l.side l.prices))))) (g.D.Desk.shows l.fn.desk)
    (g.D.Desk.shows l.desk)
