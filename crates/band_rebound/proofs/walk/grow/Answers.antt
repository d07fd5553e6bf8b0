use Rattle.std.proofs.Common.{◌-◌, List, length, get_or, subst, arith}
use Rattle.std.proofs.lemmas.List.{get_or_default}
use Rattle.lagrange_bound.specs.declared.span.Span.{Span}
use Rattle.certificate_tree.specs.declared.node.Node.{Node}
use Rattle.certificate_tree.specs.declared.node.Node.TheVariants.{Split}
use Rattle.certificate_tree.specs.Trees.{root_box}
use Rattle.certificate_tree.specs.PriceTables.{table_worths}
use Rattle.band_rebound.specs.Steps.{counts_of, IsNewLeaf}
use Rattle.band_rebound.proofs.WalkLemmas.{start_at, zero_counts, leaf_at, leaf_step, split_step, grown}
use Rattle.band_rebound.proofs.walk.grow.Goals as goal
use Rattle.band_rebound.proofs.walk.grow.Goals.{in-Split+in_ok-split-in-Split+in_ok-push-in-Split}
use Rattle.band_rebound.proofs.walk.grow.Goals.{in_default+in_ok-new-in_default+in_ok-take-in_default}

pub loop-node-init : goal.loop-node-init
loop-node-init c =
    let lists = length c.args.tables.now - 1 in
    let worths = table_worths c.args.tables.now in
    let t = c.requires.tree in
    let growth = c.new-growth.result in
    record {
      tree = t.0;
      of_tree = t.1;
      here = start_at c.args.inst.now lists worths c.args.nodes.now c.in_ok-path.path
          growth.nodes.items growth.bound (counts_of growth) t.0 c.fits.ensures c.in_ok-path.ensures t.1
          c.new-growth.ensures.nodes c.new-growth.ensures.bound
          (zero_counts growth c.new-growth.ensures.kept c.new-growth.ensures.changed);
    }

pub split-requires-clause-some : goal.split-requires-clause-some
split-requires-clause-some c =
    let nodes = c.args.nodes.now in
    let k = c.loop-node.node-index in
    let n : Node = get_or nodes k (Split 0 0) in
    let is = get_or_default nodes k (Split 0 0) n c.loop-node-test.true in
    let w = c.loop-node.invariant in
    let inst = c.args.inst.now in
    let lists = length c.args.tables.now - 1 in
    let worths = table_worths c.args.tables.now in
    let growth = c.loop-node.growth in
    let step = split_step inst lists worths (root_box inst) w.tree nodes k n c.loop-node-test.true is c.loop-node.path
    growth.nodes.items growth.bound (counts_of growth) c.in-Split.i c.in-Split.last c.in-Split.is w.here in
    step.some

pub split-requires-clause-splits : goal.split-requires-clause-splits
split-requires-clause-splits c =
    let nodes = c.args.nodes.now in
    let k = c.loop-node.node-index in
    let n : Node = get_or nodes k (Split 0 0) in
    let is = get_or_default nodes k (Split 0 0) n c.loop-node-test.true in
    let w = c.loop-node.invariant in
    let inst = c.args.inst.now in
    let lists = length c.args.tables.now - 1 in
    let worths = table_worths c.args.tables.now in
    let growth = c.loop-node.growth in
    let step = split_step inst lists worths (root_box inst) w.tree nodes k n c.loop-node-test.true is c.loop-node.path
    growth.nodes.items growth.bound (counts_of growth) c.in-Split.i c.in-Split.last c.in-Split.is w.here in
    step.splits

pub spans-requires : goal.spans-requires
spans-requires c =
    let nodes = c.args.nodes.now in
    let k = c.loop-node.node-index in
    let n : Node = get_or nodes k (Split 0 0) in
    let is = get_or_default nodes k (Split 0 0) n c.loop-node-test.true in
    let w = c.loop-node.invariant in
    let inst = c.args.inst.now in
    let lists = length c.args.tables.now - 1 in
    let worths = table_worths c.args.tables.now in
    let growth = c.loop-node.growth in
    let leaf = leaf_at inst lists worths (root_box inst) w.tree nodes k n c.loop-node-test.true is c.loop-node.path
    growth.nodes.items growth.bound (counts_of growth) c.in_default.not-Split w.here in
    leaf.some

pub new_leaf-requires : goal.new_leaf-requires
new_leaf-requires c =
    let nodes = c.args.nodes.now in
    let k = c.loop-node.node-index in
    let n : Node = get_or nodes k (Split 0 0) in
    let is = get_or_default nodes k (Split 0 0) n c.loop-node-test.true in
    let w = c.loop-node.invariant in
    let inst = c.args.inst.now in
    let lists = length c.args.tables.now - 1 in
    let worths = table_worths c.args.tables.now in
    let growth = c.loop-node.growth in
    let leaf = leaf_at inst lists worths (root_box inst) w.tree nodes k n c.loop-node-test.true is c.loop-node.path
    growth.nodes.items growth.bound (counts_of growth) c.in_default.not-Split w.here in
    record {
      some = c.requires.some;
      few = c.requires.few;
      priced = c.requires.priced;
      spans = rw c.spans.ensures leaf.is_box;
      leaf = leaf.in_range;
    }

pub leave-requires : goal.leave-requires
leave-requires c =
    let nodes = c.args.nodes.now in
    let k = c.loop-node.node-index in
    let n : Node = get_or nodes k (Split 0 0) in
    let is = get_or_default nodes k (Split 0 0) n c.loop-node-test.true in
    let w = c.loop-node.invariant in
    let inst = c.args.inst.now in
    let lists = length c.args.tables.now - 1 in
    let worths = table_worths c.args.tables.now in
    let growth = c.loop-node.growth in
    let leaf = leaf_at inst lists worths (root_box inst) w.tree nodes k n c.loop-node-test.true is c.loop-node.path
    growth.nodes.items growth.bound (counts_of growth) c.in_default.not-Split w.here in
    leaf.some

pub loop-node-preserved : goal.loop-node-preserved
loop-node-preserved c =
    let nodes = c.args.nodes.now in
    let k = c.loop-node.node-index in
    let n : Node = get_or nodes k (Split 0 0) in
    let is = get_or_default nodes k (Split 0 0) n c.loop-node-test.true in
    let w = c.loop-node.invariant in
    let inst = c.args.inst.now in
    let lists = length c.args.tables.now - 1 in
    let worths = table_worths c.args.tables.now in
    let growth = c.loop-node.growth in
    elim c.match-node.branch [
      | in-Split+in_ok-split-in-Split+in_ok-push-in-Split w ↦
          (let v = c.loop-node.invariant in
          let step = split_step inst lists worths (root_box inst) v.tree nodes k n c.loop-node-test.true is
          c.loop-node.path growth.nodes.items growth.bound (counts_of growth) w.in-Split.i w.in-Split.last
          w.in-Split.is v.here in
          rw (w.path-is, w.growth-is, w.in_ok-split-in-Split.ensures.done, w.in_ok-push-in-Split.ensures.items)
          (record { tree = v.tree; of_tree = v.of_tree; here = step.after }))
      | in_default+in_ok-new-in_default+in_ok-take-in_default w ↦
          (let v = c.loop-node.invariant in
          rw (w.path-is, w.growth-is, w.leave.ensures)
          (record {
            tree = v.tree;
            of_tree = v.of_tree;
            here = leaf_step inst lists worths (root_box inst) v.tree nodes k n c.loop-node-test.true is
                c.loop-node.path growth w.take.new.self w.in_ok-new-in_default.new w.in_default.not-Split v.here
                (subst (λ (b : List Span). IsNewLeaf inst lists worths b n w.in_ok-new-in_default.new) w.spans.ensures
                w.in_ok-new-in_default.ensures) w.in_ok-take-in_default.ensures;
          }))
    ]

pub returns : goal.returns
returns c =
    let lists = length c.args.tables.now - 1 in
    let worths = table_worths c.args.tables.now in
    let w = c.loop-node.invariant in
    grown c.args.inst.now lists worths c.args.nodes.now c.loop-node.node-index
    c.loop-node.path c.loop-node.growth w.tree w.of_tree (omega (arith, c.loop-node-test.false)) w.here
