use Rattle.std.proofs.Common.{◌-◌, List, [], ◌∷◌, length, sym, ◌∙◌, subst, arith, drop, get_or}
use Rattle.std.proofs.lemmas.Bool.{false≢true}
use Rattle.std.proofs.lemmas.List.{get_or_default}
use Rattle.lagrange_bound.specs.declared.span.Span.{Span}
use Rattle.certificate_tree.specs.declared.node.Node.{Node}
use Rattle.certificate_tree.specs.declared.node.Node.TheVariants.{Split}
use Rattle.certificate_tree.specs.Walk.{first_box}
use Rattle.certificate_tree.specs.Trees.{leaves, root_box}
use Rattle.certificate_tree.specs.Holding.{LeafHolds}
use Rattle.certificate_tree.specs.Validity.{ClaimLeafHolds}
use Rattle.certificate_tree.specs.PriceTables.{table_worths, claim_by}
use Rattle.certificate_check.proofs.FlatLemmas.{flat_leaves}
use Rattle.certificate_check.proofs.StepLemmas.{leaf_step, split_step, fails_first, all_hold, more_hold, still_some}
use Rattle.certificate_check.proofs.StepLemmas.{flat_ended, flat_past, start_at, tree_leaves}
use Rattle.certificate_check.proofs.checking.verdict_of.Goals as goal
use Rattle.certificate_check.proofs.checking.verdict_of.Goals.{in-Split+in_ok-split-in-Split}
use Rattle.certificate_check.proofs.checking.verdict_of.Goals.{in_default+in_ok-leaf_holds-in_default+else-not-branch}
use Rattle.certificate_check.proofs.checking.verdict_of.Goals.{else-loop-node-test, then-loop-node-test+then-has_ended}

pub loop-node-init : goal.loop-node-init
loop-node-init g c = record {
  here = start_at c.args.inst.now (length c.args.tables.now - 1) c.args.nodes.now c.in_ok-path.path c.requires.tree.0
      c.fits.ensures c.in_ok-path.ensures c.requires.tree.1;
  hold = λ k d h. absurd (omega (arith, h));
}

pub leaf_holds-requires : goal.leaf_holds-requires
leaf_holds-requires g c =
    let nodes = c.args.nodes.now in
    let n : Node = get_or c.args.nodes.now c.loop-node.node-index (Split 0 0) in
    let some = still_some c.has_ended.result (length c.loop-node.path) c.has_ended.ensures c.if-has_ended.false in
    let v = leaf_step c.args.inst.now (length c.args.tables.now - 1) nodes
    (flat_leaves nodes (root_box c.args.inst.now ∷ [])) c.loop-node.node-index c.loop-node.leaves c.loop-node.path n
    c.loop-node-test.true (get_or_default nodes c.loop-node.node-index (Split 0 0) n c.loop-node-test.true)
    c.in_default.not-Split some c.loop-node.invariant.here in
    record {
      bound = c.requires.bound;
      some = c.requires.some;
      priced = c.requires.priced;
      spans = rw c.spans.ensures v.is_box;
      leaf = v.leaf_range;
    }

pub returns-then-not-branch : goal.returns-then-not-branch
returns-then-not-branch g c =
    let inst = c.args.inst.now in
    let nodes = c.args.nodes.now in
    let n : Node = get_or c.args.nodes.now c.loop-node.node-index (Split 0 0) in
    let total = flat_leaves nodes (root_box inst ∷ []) in
    let t = c.requires.tree in
    let value = g.G.Goal.value_gives c.args.goal.now in
    let some = still_some c.has_ended.result (length c.loop-node.path) c.has_ended.ensures c.if-has_ended.false in
    let v = leaf_step inst (length c.args.tables.now - 1) nodes total c.loop-node.node-index
    c.loop-node.leaves c.loop-node.path n c.loop-node-test.true
    (get_or_default nodes c.loop-node.node-index (Split 0 0) n c.loop-node-test.true) c.in_default.not-Split some
    c.loop-node.invariant.here in
    record {
      tree = t.0;
      of_nodes = t.1;
      first = fails_first (ClaimLeafHolds value inst (claim_by c.args.bound c.args.tables.now nodes)) total
          (leaves (root_box inst) t.0) c.loop-node.leaves
          (record { box = first_box c.loop-node.path; node = n })
          (tree_leaves inst (length c.args.tables.now - 1) nodes t.0 t.1) v.within v.here
          (λ h. false≢true
          (sym c.if-not-branch.true
          ∙ c.in_ok-leaf_holds-in_default.ensures.1
          (subst
          (λ (b : List Span). LeafHolds value inst c.args.bound (table_worths c.args.tables.now) b n)
          (sym c.spans.ensures) h)))
          c.loop-node.invariant.hold;
    }

pub loop-node-preserved : goal.loop-node-preserved
loop-node-preserved g c =
    let inst = c.args.inst.now in
    let nodes = c.args.nodes.now in
    let n : Node = get_or c.args.nodes.now c.loop-node.node-index (Split 0 0) in
    let total = flat_leaves nodes (root_box inst ∷ []) in
    let value = g.G.Goal.value_gives c.args.goal.now in
    let same_node = get_or_default nodes c.loop-node.node-index (Split 0 0) n c.loop-node-test.true in
    let some = still_some c.has_ended.result (length c.loop-node.path) c.has_ended.ensures c.if-has_ended.false in
    elim c.match-node.branch [
      | in-Split+in_ok-split-in-Split w ↦
          (let v = split_step inst (length c.args.tables.now - 1) nodes total c.loop-node.node-index
          c.loop-node.leaves c.loop-node.path n w.in-Split.i w.in-Split.last c.loop-node-test.true same_node
          w.in-Split.is some c.loop-node.invariant.here in
          rw (w.path-is, w.leaves-is, w.in_ok-split-in-Split.ensures.done)
          (record { here = v.after; hold = c.loop-node.invariant.hold }))
      | in_default+in_ok-leaf_holds-in_default+else-not-branch w ↦
          (let v = leaf_step inst (length c.args.tables.now - 1) nodes total c.loop-node.node-index
          c.loop-node.leaves c.loop-node.path n c.loop-node-test.true same_node w.in_default.not-Split some
          c.loop-node.invariant.here in
          rw (w.path-is, w.leaves-is, w.leave.ensures) (record {
            here = v.after;
            hold = more_hold (ClaimLeafHolds value inst (claim_by c.args.bound c.args.tables.now nodes)) total
                c.loop-node.leaves (record { box = first_box c.loop-node.path; node = n }) v.here
                (subst
                (λ (b : List Span). LeafHolds value inst c.args.bound (table_worths c.args.tables.now) b n)
                w.spans.ensures (w.in_ok-leaf_holds-in_default.ensures.0 w.if-not-branch.false))
                c.loop-node.invariant.hold;
          }))
    ]

pub returns : goal.returns
returns g c =
    let inst = c.args.inst.now in
    let nodes = c.args.nodes.now in
    let total = flat_leaves nodes (root_box inst ∷ []) in
    let t = c.requires.tree in
    record {
      tree = t.0;
      of_nodes = t.1;
      holds = all_hold (ClaimLeafHolds (g.G.Goal.value_gives c.args.goal.now) inst
          (claim_by c.args.bound c.args.tables.now nodes)) total (leaves (root_box inst) t.0) c.loop-node.leaves
          (tree_leaves inst (length c.args.tables.now - 1) nodes t.0 t.1)
          (elim c.loop-node-test.branch [
            | else-loop-node-test w ↦
                c.loop-node.invariant.here.same
                ∙ flat_past nodes c.loop-node.node-index c.loop-node.path
                w.loop-node-test.false
            | then-loop-node-test+then-has_ended w ↦ c.loop-node.invariant.here.same
                ∙ flat_ended (drop c.loop-node.node-index nodes) c.loop-node.path
                (w.has_ended.ensures.0 w.if-has_ended.true)
          ]) c.loop-node.invariant.hold;
    }
