use Rattle.std.proofs.Common.{◌≡◌, ◌∙◌, ◌++◌, List, map, ap, rules}
use Rattle.std.specs.List.{flat_map}
use Rattle.plan_desk.specs.Written.Way.{writing}
use Rattle.plan_desk.proofs.Written.{put, respelled}
use Rattle.instance_model.specs.Tables.{Tables}
use Rattle.certificate_tree.specs.declared.node.Node.{Node}
use Rattle.certificate_text.specs.Text.{text_of_lines, tree_lines}
use Rattle.refined_prices.specs.RefinedLists.{RefinedList}
use Rattle.refined_text.specs.declared.lines.line.RefinedLine.{RefinedLine}
use Rattle.refined_text.specs.declared.lines.line.RefinedLine.TheVariants.{Plain}
use Rattle.refined_text.specs.text.Text.{refined_list_lines, text_of_refined}
use Rattle.refined_text.specs.text.Steps.{refined_header, list_texts}
use Rattle.refined_text.proofs.TextPieceLemmas.{plain_text, flat_text}
use Rattle.refined_text.proofs.TextWriteLemmas.{lines_cut, lines_last}
use Rattle.refined_text.proofs.text.write.write_refined_certificate.Goals as goal

lists_same : (inst : Tables) (xs ys : List RefinedList) → xs ≡ ys
    → list_texts inst xs ≡ text_of_refined (flat_map (refined_list_lines inst) ys)
lists_same inst xs ys e = ap (list_texts inst) e ∙ flat_text (refined_list_lines inst) ys

tree_same : (xs ys : List Node) → xs ≡ ys
    → text_of_lines (tree_lines xs) ≡ text_of_refined (map Plain (tree_lines ys))
tree_same xs ys e = ap (λ (ns : List Node). text_of_lines (tree_lines ns)) e ∙ plain_text (tree_lines ys)

pub returns-in_err-write_header : goal.returns-in_err-write_header
returns-in_err-write_header g c =
    let cert = c.args.cert.now in
    lines_cut c.from_residual.result (search rules) (refined_header cert)
    (flat_map (refined_list_lines c.args.inst.now) cert.lists ++ map Plain (tree_lines cert.nodes))
    c.in_err-write_header.ensures

pub returns-in_err-write_lists : goal.returns-in_err-write_lists
returns-in_err-write_lists g c =
    let cert = c.args.cert.now in
    let r = c.from_residual-in_err-write_lists.result in
    let lists : List RefinedLine = flat_map (refined_list_lines c.args.inst.now) cert.lists in
    let tree : List RefinedLine = map Plain (tree_lines cert.nodes) in
    lines_last r (refined_header cert) (lists ++ tree) (put writing c.in_ok-write_header.ensures)
    (lines_cut r (search rules) lists tree
    (respelled writing (lists_same c.args.inst.now c.as_slice.result.now cert.lists c.as_slice.ensures)
    c.in_err-write_lists.ensures))

pub returns : goal.returns
returns g c =
    let cert = c.args.cert.now in
    let r = c.write_tree.result in
    let lists : List RefinedLine = flat_map (refined_list_lines c.args.inst.now) cert.lists in
    let tree : List RefinedLine = map Plain (tree_lines cert.nodes) in
    lines_last r (refined_header cert) (lists ++ tree) (put writing c.in_ok-write_header.ensures)
    (lines_last r lists tree
    (put writing
    (respelled writing (lists_same c.args.inst.now c.as_slice.result.now cert.lists c.as_slice.ensures)
    c.in_ok-write_lists.ensures))
    (respelled writing (tree_same c.as_slice-2.result.now cert.nodes c.as_slice-2.ensures) c.write_tree.ensures))
