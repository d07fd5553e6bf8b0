use Rattle.std.proofs.Common.{◌∙◌, ◌-◌, sym, subst, length, get_or}
use Rattle.std.proofs.lemmas.List.{get_or_default}
use Rattle.lagrange_bound.specs.Boxes.{IsBox}
use Rattle.certificate_tree.specs.declared.node.Node.{Node}
use Rattle.certificate_tree.specs.declared.node.Node.TheVariants.{Split}
use Rattle.certificate_check.proofs.StepLemmas.{still_some}
use Rattle.refined_search.proofs.WalkLemmas.{walk_start, walk_leaf, walk_split}
use Rattle.refined_search.proofs.open_box.walk.Goals as goal
use Rattle.refined_search.proofs.open_box.walk.Goals.{in-Split+in_ok-split-in-Split, in_default}

pub loop-node-init : goal.loop-node-init
loop-node-init c =
    walk_start c.args.inst.now (length c.args.tables.now - 1) c.args.nodes.now c.in_ok-path.path c.requires.tree.0
    c.fits.ensures c.in_ok-path.ensures c.requires.tree.1

pub split-requires : goal.split-requires
split-requires c =
    let nodes = c.args.nodes.now in
    let k = c.loop-node.node-index in
    let n : Node = get_or nodes k (Split 0 0) in
    let some = still_some c.has_ended.result (length c.loop-node.path) c.has_ended.ensures c.if-has_ended.false in
    let step = walk_split c.args.inst.now (length c.args.tables.now - 1) nodes k c.loop-node.path n c.in-Split.i
    c.in-Split.last c.loop-node-test.true (get_or_default nodes k (Split 0 0) n c.loop-node-test.true) c.in-Split.is
    some c.loop-node.invariant in
    record { some = some; splits = step.splits }

pub is_open-requires : goal.is_open-requires
is_open-requires c =
    let nodes = c.args.nodes.now in
    let k = c.loop-node.node-index in
    let n : Node = get_or nodes k (Split 0 0) in
    let some = still_some c.has_ended.result (length c.loop-node.path) c.has_ended.ensures c.if-has_ended.false in
    let step = walk_leaf c.args.inst.now (length c.args.tables.now - 1) nodes k c.loop-node.path n
    c.loop-node-test.true (get_or_default nodes k (Split 0 0) n c.loop-node-test.true) c.in_default.not-Split
    some c.loop-node.invariant in
    record { priced = c.requires.priced; spans = rw c.spans.ensures step.is_box }

pub returns-then-count-place : goal.returns-then-count-place
returns-then-count-place c =
    let nodes = c.args.nodes.now in
    let k = c.loop-node.node-index in
    let n : Node = get_or nodes k (Split 0 0) in
    let some = still_some c.has_ended.result (length c.loop-node.path) c.has_ended.ensures c.if-has_ended.false in
    let step = walk_leaf c.args.inst.now (length c.args.tables.now - 1) nodes k c.loop-node.path n
    c.loop-node-test.true (get_or_default nodes k (Split 0 0) n c.loop-node-test.true) c.in_default.not-Split
    some c.loop-node.invariant in
    subst (IsBox c.args.inst.now)
    (sym (c.in_ok-spans-in_default.ensures.items ∙ c.spans-then-count-place.ensures)) step.is_box

pub loop-node-preserved : goal.loop-node-preserved
loop-node-preserved c =
    let inst = c.args.inst.now in
    let lists = length c.args.tables.now - 1 in
    let nodes = c.args.nodes.now in
    let k = c.loop-node.node-index in
    let n : Node = get_or nodes k (Split 0 0) in
    let same = get_or_default nodes k (Split 0 0) n c.loop-node-test.true in
    let some = still_some c.has_ended.result (length c.loop-node.path) c.has_ended.ensures c.if-has_ended.false in
    elim c.match-node.branch [
      | in-Split+in_ok-split-in-Split w ↦
          (let step = walk_split inst lists nodes k c.loop-node.path n w.in-Split.i w.in-Split.last
          c.loop-node-test.true same w.in-Split.is some c.loop-node.invariant in
          rw (w.path-is, w.in_ok-split-in-Split.ensures.done) step.after)
      | in_default w ↦
          (let step = walk_leaf inst lists nodes k c.loop-node.path n c.loop-node-test.true same
          w.in_default.not-Split some c.loop-node.invariant in
          rw (w.path-is, w.leave.ensures) step.after)
    ]
