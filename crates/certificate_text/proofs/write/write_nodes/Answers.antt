use Rattle.std.proofs.Common.{rules, ◌∙◌, [], ◌∷◌, ◌+◌, ◌++◌, take, drop, map, sym, ap}
use Rattle.plan_desk.specs.Written.Way.{writing}
use Rattle.plan_desk.proofs.Written.{begins}
use Rattle.certificate_lines.specs.declared.line.CertificateLine.{CertificateLine}
use Rattle.certificate_tree.specs.declared.node.Node.TheVariants.{Split}
use Rattle.certificate_text.specs.Text.{node_line}
use Rattle.certificate_text.proofs.WriteLemmas.{step_on, step_stops, map_step, map_rest}
use Rattle.certificate_text.proofs.write.write_nodes.Goals as goal

pub loop-node-init : goal.loop-node-init
loop-node-init g c = begins writing (g.D.Desk.shows c.args.desk.now)

pub returns-in_err-put_line : goal.returns-in_err-put_line
returns-in_err-put_line g c =
    let nodes = c.args.nodes.now in
    let n = c.loop-node.node-index in
    step_stops (map node_line (take n nodes)) (c.line_of_node.result ∷ []) (map node_line (take (n + 1) nodes))
    (map_step node_line nodes n (Split 0 0) c.loop-node-test.true
    ∙ ap (λ (l : CertificateLine). map node_line (take n nodes) ++ l ∷ []) (sym c.line_of_node.ensures))
    c.from_residual.result (search rules) (map node_line (drop (n + 1) nodes)) (map node_line nodes)
    (map_rest node_line nodes n (Split 0 0) c.loop-node-test.true)
    c.loop-node.invariant c.in_err-put_line.ensures

pub loop-node-preserved : goal.loop-node-preserved
loop-node-preserved g c =
    let nodes = c.args.nodes.now in
    let n = c.loop-node.node-index in
    step_on (map node_line (take n nodes)) (c.line_of_node.result ∷ []) (map node_line (take (n + 1) nodes))
    (map_step node_line nodes n (Split 0 0) c.loop-node-test.true
    ∙ ap (λ (l : CertificateLine). map node_line (take n nodes) ++ l ∷ []) (sym c.line_of_node.ensures))
    c.loop-node.invariant c.in_ok-put_line.ensures
