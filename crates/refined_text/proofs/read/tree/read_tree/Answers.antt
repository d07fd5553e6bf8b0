use Rattle.std.proofs.Common.{[], ◌∷◌, subst}
use Rattle.std.proofs.lemmas.Result.{err_from_is_err_and}
use Rattle.certificate_tree.specs.Trees.{root_box}
use Rattle.certificate_text.specs.Grammar as place
use Rattle.certificate_text.specs.read.Lines.{Left}
use Rattle.refined_text.specs.grammar.Further.{no_further}
use Rattle.refined_text.specs.grammar.Grammar.{within}
use Rattle.refined_text.specs.read.Reading.{RefinedFails}
use Rattle.refined_text.proofs.ReadTreeLemmas.{fails_nodes, fails_rest, tree_read, left_is}
use Rattle.refined_text.proofs.read.tree.read_tree.Goals as goal

pub returns-in_err-nodes-clause-err : goal.returns-in_err-nodes-clause-err
returns-in_err-nodes-clause-err c =
    let p = err_from_is_err_and c.from_residual.result c.from_residual.ensures.1 in
    let inst = c.args.inst.now in
    let boxes = root_box inst ∷ [] in
    rw (p.1, p.2) (subst (λ (x : Left). RefinedFails inst (within (place.nodes c.args.count boxes) (no_further inst)) x
    c.in_err-nodes.field-0.0)
    (left_is c.nodes-rest.result c.args.lines.now c.nodes-rest.ensures.rest c.nodes-rest.ensures.count)
    (fails_nodes inst c.args.count boxes c.nodes-rest.result c.in_err-nodes.field-0.0 c.in_err-nodes.ensures.err))

pub returns-in_err-end-clause-err : goal.returns-in_err-end-clause-err
returns-in_err-end-clause-err c =
    let p = err_from_is_err_and c.from_residual-in_err-end.result c.from_residual-in_err-end.ensures.1 in
    let inst = c.args.inst.now in
    let boxes = root_box inst ∷ [] in
    rw (p.1, p.2) (subst (λ (x : Left). RefinedFails inst (within (place.nodes c.args.count boxes) (no_further inst)) x
    c.in_err-end.field-0.0)
    (left_is c.nodes-rest.result c.args.lines.now c.nodes-rest.ensures.rest c.nodes-rest.ensures.count)
    (fails_rest inst c.args.count c.nodes-rest.result c.read_nodes.new.lines c.in_ok-nodes.nodes
    c.in_err-end.field-0.0 c.in_ok-nodes.ensures.ok c.in_err-end.ensures.err))

pub returns-clause-ok : goal.returns-clause-ok
returns-clause-ok c = tree_read c.args.inst.now c.args.count c.args.lines.now c.nodes-rest.result
    c.read_nodes.new.lines c.in_ok-nodes.nodes
    (left_is c.nodes-rest.result c.args.lines.now c.nodes-rest.ensures.rest c.nodes-rest.ensures.count)
    c.in_ok-nodes.ensures.ok c.in_ok-end.ensures.ok
