use Rattle.std.proofs.Common.{[], ◌∷◌, ◌+◌, List, take, sym, ap, arith}
use Rattle.certificate_text.specs.Lengths.{counted_length}
use Rattle.refined_prices.specs.Offsets.{group_tail_at}
use Rattle.refined_text.specs.declared.lines.line.RefinedLine.{RefinedLine}
use Rattle.refined_text.specs.text.Text.{text_of_refined, group_lines}
use Rattle.refined_text.proofs.TextTailLemmas.{groups_none, tails_step}
use Rattle.refined_text.proofs.TextLengthLemmas.{lines_joined}
use Rattle.refined_text.proofs.text.entry_lengths.tails_length.Goals as goal

pub loop-u-init : goal.loop-u-init
loop-u-init c = ap (λ (ls : List RefinedLine). counted_length (text_of_refined ls)) (sym (groups_none 1))

pub loop-u-preserved : goal.loop-u-preserved
loop-u-preserved c =
    let list = c.args.list.now in
    let u = c.loop-u.u in
    lines_joined (group_lines 1 (take u list.tails)) (group_lines (u + 1) (group_tail_at list.tails (u + 1) ∷ []))
    (group_lines 1 (take (u + 1) list.tails)) c.loop-u.total c.tail_length_at.result c.saturating_add-total.result
    (tails_step c.args.inst.now list u c.requires (omega (arith, c.periods-u-end.ensures.value, c.loop-u-test.true)))
    c.loop-u.invariant c.tail_length_at.ensures c.saturating_add-total.ensures
