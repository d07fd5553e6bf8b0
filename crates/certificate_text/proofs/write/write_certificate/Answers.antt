use Rattle.std.proofs.Common.{◌++◌, List, ap, rules}
use Rattle.std.specs.List.{flat_map}
use Rattle.plan_desk.specs.Written.Way.{writing}
use Rattle.plan_desk.proofs.Written.{put, respelled}
use Rattle.lagrange_bound.specs.Prices.{PriceList}
use Rattle.certificate_lines.specs.declared.line.CertificateLine.{CertificateLine}
use Rattle.certificate_tree.specs.declared.node.Node.{Node}
use Rattle.certificate_text.specs.Text.{list_lines, text_of_lines, tree_lines}
use Rattle.certificate_text.specs.Steps.{header_lines}
use Rattle.certificate_text.proofs.WriteLemmas.{lines_cut, lines_last}
use Rattle.certificate_text.proofs.write.write_certificate.Goals as goal

pub returns-in_err-write_header : goal.returns-in_err-write_header
returns-in_err-write_header g c =
    let cert = c.args.cert.now in
    lines_cut c.from_residual.result (search rules) (header_lines cert)
    (flat_map (list_lines c.args.inst.now) cert.lists ++ tree_lines cert.nodes) c.in_err-write_header.ensures

pub returns-in_err-write_lists : goal.returns-in_err-write_lists
returns-in_err-write_lists g c =
    let cert = c.args.cert.now in
    let r = c.from_residual-in_err-write_lists.result in
    let lists : List CertificateLine = flat_map (list_lines c.args.inst.now) cert.lists in
    lines_last r (header_lines cert) (lists ++ tree_lines cert.nodes) (put writing c.in_ok-write_header.ensures)
    (lines_cut r (search rules) lists (tree_lines cert.nodes)
    (respelled writing (ap (λ (ps : List PriceList). text_of_lines (flat_map (list_lines c.args.inst.now) ps))
    c.as_slice.ensures) c.in_err-write_lists.ensures))

pub returns : goal.returns
returns g c =
    let cert = c.args.cert.now in
    let r = c.write_tree.result in
    let lists : List CertificateLine = flat_map (list_lines c.args.inst.now) cert.lists in
    lines_last r (header_lines cert) (lists ++ tree_lines cert.nodes) (put writing c.in_ok-write_header.ensures)
    (lines_last r lists (tree_lines cert.nodes)
    (put writing
    (respelled writing (ap (λ (ps : List PriceList). text_of_lines (flat_map (list_lines c.args.inst.now) ps))
    c.as_slice.ensures) c.in_ok-write_lists.ensures))
    (respelled writing (ap (λ (nodes : List Node). text_of_lines (tree_lines nodes)) c.as_slice-2.ensures)
    c.write_tree.ensures))
