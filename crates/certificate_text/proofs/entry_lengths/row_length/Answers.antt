use Rattle.std.proofs.Common.{◌+◌, ◌*◌, ℕ, List, take, drop, sym, ap, arith}
use Rattle.certificate_lines.specs.declared.line.CertificateLine.{CertificateLine}
use Rattle.certificate_text.specs.Text.{text_of_lines, limit_lines}
use Rattle.certificate_text.specs.Steps.{limit_form, limit_table, limit_of, price_lines}
use Rattle.certificate_text.proofs.WriteLemmas.{limits_none, row_step}
use Rattle.certificate_text.specs.Lengths.{counted_length}
use Rattle.certificate_text.proofs.CountLemmas.{lines_joined}
use Rattle.certificate_text.proofs.entry_lengths.row_length.Goals as goal

pub loop-u-init : goal.loop-u-init
loop-u-init c =
    let periods = c.args.inst.now.periods in
    ap (λ (ls : List CertificateLine). counted_length (text_of_lines ls))
    (sym (limits_none (limit_form c.args.side) periods (c.args.c * periods)))

pub loop-u-preserved : goal.loop-u-preserved
loop-u-preserved c =
    let inst = c.args.inst.now in
    let prices = c.args.prices.now in
    let u = c.loop-u.u in
    let row : List ℕ = take inst.periods (drop (c.args.c * inst.periods) (limit_table c.args.side prices)) in
    lines_joined (limit_lines (limit_form c.args.side) inst.periods (c.args.c * inst.periods) (take u row))
    (price_lines c.args.side (c.args.c + 1) (u + 1) (limit_of inst c.args.side prices c.args.c (u + 1)))
    (limit_lines (limit_form c.args.side) inst.periods (c.args.c * inst.periods) (take (u + 1) row)) c.loop-u.total
    c.price_length.result c.saturating_add-total.result
    (row_step inst c.args.side prices c.args.c c.requires.in_range c.requires.resource u
    (omega (arith, c.periods-u-end.ensures.value, c.loop-u-test.true))) c.loop-u.invariant c.price_length.ensures
    c.saturating_add-total.ensures
