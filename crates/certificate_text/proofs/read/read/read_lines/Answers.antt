use Rattle.std.proofs.Common.{[], ◌∷◌, None}
use Rattle.std.proofs.lemmas.Result.{err_from_is_err_and}
use Rattle.certificate_lines.specs.declared.line.CertificateLine.TheVariants as line
use Rattle.certificate_tree.specs.Trees.{root_box}
use Rattle.certificate_text.specs.Grammar.{title, bound, count, lists, nodes}
use Rattle.certificate_text.proofs.ReadStepLemmas.{passes_more, fails_behind}
use Rattle.certificate_text.proofs.ReadWholeLemmas.{header, header_read, before_nodes, before_nodes_read, whole_read}
use Rattle.certificate_text.proofs.read.read.read_lines.Goals as goal

pub returns-in_err-bound-clause-err : goal.returns-in_err-bound-clause-err
returns-in_err-bound-clause-err c =
    let p = err_from_is_err_and c.from_residual-in_err-bound.result c.from_residual-in_err-bound.ensures.1 in
    let inst = c.args.inst.now in
    rw (p.1, p.2) (fails_behind inst title (bound c.in_ok-version.version) c.args.lines.now c.read_title.new.lines
    (line.Title c.in_ok-version.version ∷ []) c.in_err-bound.field-0.0 (c.in_ok-version.ensures.ok inst)
    (c.in_err-bound.ensures.err inst))

pub returns-in_err-count-clause-err : goal.returns-in_err-count-clause-err
returns-in_err-count-clause-err c =
    let p = err_from_is_err_and c.from_residual-in_err-count.result c.from_residual-in_err-count.ensures.1 in
    let inst = c.args.inst.now in
    let v = c.in_ok-version.version in
    let b = c.in_ok-bound.bound in
    let two = passes_more inst title (bound v) (count v) c.args.lines.now c.read_title.new.lines c.read_bound.new.lines
    (line.Title v ∷ []) (line.Bound b ∷ []) (c.in_ok-version.ensures.ok inst) (c.in_ok-bound.ensures.ok inst) in
    rw (p.1, p.2) (fails_behind inst title (count v) c.args.lines.now c.read_bound.new.lines
    (line.Title v ∷ line.Bound b ∷ []) c.in_err-count.field-0.0 two (c.in_err-count.ensures.err inst))

pub returns-in_err-lists-clause-err : goal.returns-in_err-lists-clause-err
returns-in_err-lists-clause-err c =
    let p = err_from_is_err_and c.from_residual-in_err-lists.result c.from_residual-in_err-lists.ensures.1 in
    let inst = c.args.inst.now in
    let v = c.in_ok-version.version in
    let b = c.in_ok-bound.bound in
    let n = c.in_ok-count.count in
    let three = header_read inst v b n c.args.lines.now c.read_title.new.lines c.read_bound.new.lines
    c.read_count.new.lines (c.in_ok-version.ensures.ok inst) (c.in_ok-bound.ensures.ok inst)
    (c.in_ok-count.ensures.ok inst) in
    rw (p.1, p.2) (fails_behind inst title (lists v n n None) c.args.lines.now c.read_count.new.lines (header v b n)
    c.in_err-lists.field-0.0 three c.in_err-lists.ensures.err)

pub returns-in_err-nodes-clause-err : goal.returns-in_err-nodes-clause-err
returns-in_err-nodes-clause-err c =
    let p = err_from_is_err_and c.from_residual-in_err-nodes.result c.from_residual-in_err-nodes.ensures.1 in
    let inst = c.args.inst.now in
    let v = c.in_ok-version.version in
    let b = c.in_ok-bound.bound in
    let n = c.in_ok-count.count in
    let three = header_read inst v b n c.args.lines.now c.read_title.new.lines c.read_bound.new.lines
    c.read_count.new.lines (c.in_ok-version.ensures.ok inst) (c.in_ok-bound.ensures.ok inst)
    (c.in_ok-count.ensures.ok inst) in
    let four = before_nodes_read inst v b n c.in_ok-lists.lists c.args.lines.now c.read_count.new.lines
    c.read_lists.new.lines three c.in_ok-lists.ensures.ok in
    rw (p.1, p.2) (fails_behind inst title (nodes n (root_box inst ∷ [])) c.args.lines.now c.read_lists.new.lines
    (before_nodes inst v b n c.in_ok-lists.lists) c.in_err-nodes.field-0.0 four c.in_err-nodes.ensures.err)

pub returns-clause-ok : goal.returns-clause-ok
returns-clause-ok c =
    let inst = c.args.inst.now in
    let v = c.in_ok-version.version in
    let b = c.in_ok-bound.bound in
    let n = c.in_ok-count.count in
    let three = header_read inst v b n c.args.lines.now c.read_title.new.lines c.read_bound.new.lines
    c.read_count.new.lines (c.in_ok-version.ensures.ok inst) (c.in_ok-bound.ensures.ok inst)
    (c.in_ok-count.ensures.ok inst) in
    whole_read inst v b n c.in_ok-lists.lists c.in_ok-nodes.nodes c.args.lines.now c.read_count.new.lines
    c.read_lists.new.lines c.read_nodes.new.lines c.in_ok-bound.ensures.in_range c.in_ok-count.ensures.few three
    c.in_ok-lists.ensures.ok c.in_ok-nodes.ensures.ok
