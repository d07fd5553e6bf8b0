use Rattle.std.proofs.Common.{◌≡◌, ◌+◌, ap, take, rules, arith}
use Rattle.std.proofs.lemmas.List.{length-take}
use Rattle.quantile_index.specs.declared.entry.Entry.{Entry}
use Rattle.quantile_index.proofs.BagLemmas.{bag_grown, next_new, length_ranked}
use Rattle.quantile_index.proofs.tree_row.tree_of.Goals as goal

pub put_in-tree-requires-clause-new : goal.put_in-tree-requires-clause-new
put_in-tree-requires-clause-new g c =
    let scenario : c.in_ok-node.node.value.entry.scenario ≡ c.loop-i.i + 1 = search rules in
    next_new _ c.args.from.now c.loop-i.i _ c.loop-i-test.true c.loop-i.invariant.bag scenario

pub put_in-tree-requires-clause-few : goal.put_in-tree-requires-clause-few
put_in-tree-requires-clause-few g c =
    omega (
      arith,
      length_ranked _ (take c.loop-i.i c.args.from.now) c.loop-i.invariant.bag,
      length-take c.loop-i.i c.args.from.now,
    )

pub loop-i-preserved : goal.loop-i-preserved
loop-i-preserved g c =
    let is : c.in_ok-node.node.value.entry ≡ record { sum = c.index-from-i.result; scenario = c.loop-i.i + 1 } =
    search rules in
    let sum = rw c.index-from-i.is at (ap (λ (e : Entry). e.sum) is) in
    let scenario = ap (λ (e : Entry). e.scenario) is in
    let inserted = c.put_in-tree.ensures.inserted in
    record {
      ordered = c.put_in-tree.ensures.ordered;
      bag = bag_grown _ _ c.args.from.now c.loop-i.i c.index-from-i.result _ c.loop-i-test.true
          c.loop-i.invariant.bag sum scenario inserted;
    }
