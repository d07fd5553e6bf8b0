use Rattle.std.proofs.Common.{◌∷◌, List, subst}
use Rattle.std.proofs.lemmas.Result.{err_from_is_err_and}
use Rattle.lagrange_bound.specs.declared.span.Span.{Span}
use Rattle.certificate_text.specs.Text.{node_line}
use Rattle.certificate_text.specs.Grammar.{nodes}
use Rattle.certificate_text.specs.read.Reading.{IsNodeOf}
use Rattle.certificate_text.specs.read.Faults.{HasFaultFrom}
use Rattle.certificate_text.proofs.ReadNodeLemmas.{nodes_none, nodes_more, node_fails, some_box}
use Rattle.certificate_text.proofs.read.nodes.read_nodes.Goals as goal

pub loop-alloc-init : goal.loop-alloc-init
loop-alloc-init c =
    rw (c.new-nodes.ensures.items, c.in_ok-path.ensures) (nodes_none c.args.inst.now c.args.lists c.args.lines.now)

pub returns-in_err-node-clause-err : goal.returns-in_err-node-clause-err
returns-in_err-node-clause-err c =
    let p = err_from_is_err_and c.from_residual-in_err-node.result c.from_residual-in_err-node.ensures.1 in
    let some = some_box c.has_ended.result c.loop-alloc.path c.has_ended.ensures c.loop-alloc-test.true in
    rw (p.1, p.2) (node_fails c.args.inst.now c.args.lists c.args.lines.now c.loop-alloc.lines c.loop-alloc.nodes.items
    c.loop-alloc.path c.in_err-node.field-0.0 c.loop-alloc.invariant some
    (λ bs. subst (λ (b : List Span). HasFaultFrom c.args.inst.now (nodes c.args.lists (b ∷ bs)) c.loop-alloc.lines.count
    c.loop-alloc.lines.rest c.in_err-node.field-0.0) c.spans.ensures (c.in_err-node.ensures.err bs)))

pub loop-alloc-preserved : goal.loop-alloc-preserved
loop-alloc-preserved c =
    let some = some_box c.has_ended.result c.loop-alloc.path c.has_ended.ensures c.loop-alloc-test.true in
    let fits = subst (λ (b : List Span). IsNodeOf c.args.inst.now c.args.lists b (node_line c.in_ok-node.node)
    c.in_ok-node.node) c.spans.ensures c.in_ok-node.ensures.in_range in
    rw (c.in_ok-push.ensures.items, c.in_ok-pass_node.ensures)
    (nodes_more c.args.inst.now c.args.lists c.args.lines.now c.loop-alloc.lines c.read_node.new.lines
    c.loop-alloc.nodes.items c.loop-alloc.path c.in_ok-node.node c.loop-alloc.invariant some
    c.in_ok-node.ensures.ok fits)
