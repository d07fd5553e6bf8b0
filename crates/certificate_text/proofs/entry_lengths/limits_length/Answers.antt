use Rattle.std.proofs.Common.{◌≡◌, ◌+◌, ◌*◌, ℕ, List, take, sym, ◌∙◌, ap, arith}
use Rattle.certificate_lines.specs.declared.line.CertificateLine.{CertificateLine}
use Rattle.certificate_text.specs.Text.{text_of_lines, limit_lines}
use Rattle.certificate_text.specs.Steps.{limit_form, limit_table, row_lines}
use Rattle.certificate_text.proofs.WriteLemmas.{limits_none, rows_step}
use Rattle.certificate_text.specs.Lengths.{counted_length}
use Rattle.certificate_text.proofs.CountLemmas.{lines_joined}
use Rattle.certificate_text.proofs.entry_lengths.limits_length.Goals as goal

pub loop-c-init : goal.loop-c-init
loop-c-init c =
    let inst = c.args.inst.now in
    let table : List ℕ = limit_table c.args.side c.args.prices.now in
    let none : 0 * inst.periods ≡ 0 = omega arith in
    ap (λ (ls : List CertificateLine). counted_length (text_of_lines ls))
    (sym (limits_none (limit_form c.args.side) inst.periods 0))
    ∙ ap (λ (k : ℕ). counted_length (text_of_lines (limit_lines (limit_form c.args.side) inst.periods 0 (take k
    table))))
    (sym none)

pub loop-c-preserved : goal.loop-c-preserved
loop-c-preserved c =
    let inst = c.args.inst.now in
    let prices = c.args.prices.now in
    let form = limit_form c.args.side in
    let table : List ℕ = limit_table c.args.side prices in
    lines_joined (limit_lines form inst.periods 0 (take (c.loop-c.c * inst.periods) table))
    (row_lines inst c.args.side prices c.loop-c.c)
    (limit_lines form inst.periods 0 (take ((c.loop-c.c + 1) * inst.periods) table)) c.loop-c.total c.row_length.result
    c.saturating_add-total.result
    (rows_step inst c.args.side prices c.loop-c.c c.requires
    (omega (arith, c.resources-c-end.ensures.value, c.loop-c-test.true))) c.loop-c.invariant c.row_length.ensures
    c.saturating_add-total.ensures
