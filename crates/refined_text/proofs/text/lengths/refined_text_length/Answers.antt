use Rattle.std.proofs.Common.{◌∙◌, ◌++◌, List, map, refl, ap}
use Rattle.std.specs.List.{flat_map}
use Rattle.certificate_tree.specs.declared.node.Node.{Node}
use Rattle.certificate_text.specs.Lengths.{counted_length}
use Rattle.certificate_text.specs.Text.{text_of_lines, tree_lines}
use Rattle.refined_prices.specs.RefinedLists.{RefinedList}
use Rattle.refined_text.specs.declared.lines.line.RefinedLine.{RefinedLine}
use Rattle.refined_text.specs.declared.lines.line.RefinedLine.TheVariants.{Plain}
use Rattle.refined_text.specs.text.Text.{refined_list_lines, refined_certificate_lines}
use Rattle.refined_text.specs.text.Steps.{refined_header, list_texts}
use Rattle.refined_text.proofs.TextPieceLemmas.{plain_text, flat_text}
use Rattle.refined_text.proofs.TextLengthLemmas.{lines_joined}
use Rattle.refined_text.proofs.text.lengths.refined_text_length.Goals as goal

pub returns : goal.returns
returns c =
    let inst = c.args.inst.now in
    let cert = c.args.cert.now in
    let lists : List RefinedLine = flat_map (refined_list_lines inst) cert.lists in
    let tree : List RefinedLine = map Plain (tree_lines cert.nodes) in
    let two = c.lists_length-lists.ensures
    ∙ ap (λ (xs : List RefinedList). counted_length (list_texts inst xs)) c.as_slice.ensures
    ∙ ap counted_length (flat_text (refined_list_lines inst) cert.lists) in
    let three = c.tree_length-tree.ensures
    ∙ ap (λ (ns : List Node). counted_length (text_of_lines (tree_lines ns))) c.as_slice-2.ensures
    ∙ ap counted_length (plain_text (tree_lines cert.nodes)) in
    let rest = lines_joined lists tree (lists ++ tree) c.lists_length-lists.result c.tree_length-tree.result
    c.saturating_add-rest.result refl two three c.saturating_add-rest.ensures in
    lines_joined (refined_header cert) (lists ++ tree) (refined_certificate_lines inst cert)
    c.header_length-header.result
    c.saturating_add-rest.result c.saturating_add.result refl c.header_length-header.ensures rest
    c.saturating_add.ensures
