use Rattle.std.proofs.Common.{◌∙◌, map, refl, ap}
use Rattle.lagrange_bound.specs.Prices.{PriceList}
use Rattle.certificate_text.specs.Lengths.{counted_length}
use Rattle.certificate_text.specs.Text.{entry_lines, text_of_lines}
use Rattle.refined_text.specs.declared.lines.line.RefinedLine.TheVariants.{Plain}
use Rattle.refined_text.specs.text.Text.{further_lines, refined_entry_lines}
use Rattle.refined_text.proofs.TextPieceLemmas.{plain_text}
use Rattle.refined_text.proofs.TextLengthLemmas.{lines_joined}
use Rattle.refined_text.proofs.text.entry_lengths.refined_entries_length.Goals as goal

pub returns : goal.returns
returns c =
    let inst = c.args.inst.now in
    let list = c.args.list.now in
    let plain = c.entries_length-plain.ensures
    ∙ ap (λ (p : PriceList). counted_length (text_of_lines (entry_lines inst p))) c.prices.ensures
    ∙ ap counted_length (plain_text (entry_lines inst list.prices)) in
    lines_joined (map Plain (entry_lines inst list.prices)) (further_lines list) (refined_entry_lines inst list)
    c.entries_length-plain.result c.further_length-further.result c.saturating_add.result refl plain
    c.further_length-further.ensures c.saturating_add.ensures
