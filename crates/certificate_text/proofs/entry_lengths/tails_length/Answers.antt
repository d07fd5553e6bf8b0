use Rattle.std.proofs.Common.{[], ◌∷◌, ◌+◌, List, take, sym, ap, arith}
use Rattle.lagrange_bound.specs.Prices.{tail_of}
use Rattle.certificate_lines.specs.declared.line.CertificateLine.{CertificateLine}
use Rattle.certificate_text.specs.Text.{text_of_lines, tail_lines}
use Rattle.certificate_text.proofs.WriteLemmas.{tails_none, tails_step}
use Rattle.certificate_text.specs.Lengths.{counted_length}
use Rattle.certificate_text.proofs.CountLemmas.{lines_joined}
use Rattle.certificate_text.proofs.entry_lengths.tails_length.Goals as goal

pub loop-u-init : goal.loop-u-init
loop-u-init c = ap (λ (ls : List CertificateLine). counted_length (text_of_lines ls)) (sym (tails_none 1))

pub loop-u-preserved : goal.loop-u-preserved
loop-u-preserved c =
    let prices = c.args.prices.now in
    let u = c.loop-u.u in
    lines_joined (tail_lines 1 (take u prices.tails)) (tail_lines (u + 1) (tail_of prices (u + 1) ∷ []))
    (tail_lines 1 (take (u + 1) prices.tails)) c.loop-u.total c.tail_length_at.result c.saturating_add-total.result
    (tails_step c.args.inst.now prices u c.requires (omega (arith, c.periods-u-end.ensures.value, c.loop-u-test.true)))
    c.loop-u.invariant c.tail_length_at.ensures c.saturating_add-total.ensures
