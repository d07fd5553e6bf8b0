use Rattle.std.proofs.Common.{◌-◌, length, ap, ◌∙◌, arith}
use Rattle.quantile_index.proofs.BagLemmas.{bag_changed, rest_new, is_in_ranked, length_ranked, IsChange}
use Rattle.quantile_index.proofs.OrderLemmas.{length_inserts}
use Rattle.quantile_index.specs.HeightLaws.{height_limit_greatest}
use Rattle.quantile_index.specs.declared.entry.Entry.{Entry}
use Rattle.quantile_index.specs.declared.tree.Node.{Node}
use Rattle.quantile_index.proofs.tree_row.change.Goals as goal

pub take_out-node-requires-clause-present : goal.take_out-node-requires-clause-present
take_out-node-requires-clause-present g c =
    is_in_ranked _ c.args.sums.now (c.args.k - 1) c.index-sums-i.result _ c.requires.ranking.bag (omega arith)
    c.index-sums-i.is (omega arith)

pub take_out-node-requires-clause-few : goal.take_out-node-requires-clause-few
take_out-node-requires-clause-few g c = omega (arith, length_ranked _ c.args.sums.now c.requires.ranking.bag)

pub put_in-requires-clause-new : goal.put_in-requires-clause-new
put_in-requires-clause-new g c =
    let entry = ap (λ (n : Node). n.entry.scenario) c.deref_mut.ensures.value
    ∙ ap (λ (e : Entry). e.scenario) c.take_out-node.ensures.entry in
    let change : IsChange 1 c.args.sums.now (c.args.k - 1) c.args.sum _ _ = record {
      within = omega arith;
      default = c.index-sums-i.result;
      old_sum = c.index-sums-i.is;
      old_scenario = omega arith;
      new_sum = c.set_sum.ensures.sum;
      new_scenario = c.set_sum.ensures.scenario ∙ entry ∙ omega arith;
    } in
    rest_new _ _ c.args.sums.now (c.args.k - 1) c.args.sum _ _ c.requires.ranking.bag change
    c.take_out-node.ensures.removed

pub put_in-requires-clause-few : goal.put_in-requires-clause-few
put_in-requires-clause-few g c =
    omega (
      arith,
      length_ranked _ c.args.sums.now c.requires.ranking.bag,
      length_inserts _ _ _ c.take_out-node.ensures.removed,
    )

pub returns-clause-ranking : goal.returns-clause-ranking
returns-clause-ranking g c =
    let entry = ap (λ (n : Node). n.entry.scenario) c.deref_mut.ensures.value
    ∙ ap (λ (e : Entry). e.scenario) c.take_out-node.ensures.entry in
    let change : IsChange 1 c.args.sums.now (c.args.k - 1) c.args.sum _ _ = record {
      within = omega arith;
      default = c.index-sums-i.result;
      old_sum = c.index-sums-i.is;
      old_scenario = omega arith;
      new_sum = c.set_sum.ensures.sum;
      new_scenario = c.set_sum.ensures.scenario ∙ entry ∙ omega arith;
    } in
    let removed = c.take_out-node.ensures.removed in
    let inserted = c.put_in.ensures.inserted in
    record {
      ordered = c.put_in.ensures.ordered;
      bag = bag_changed _ _ _ c.args.sums.now (c.args.k - 1) c.args.sum _ _ c.requires.ranking.bag
          change removed inserted;
    }

pub returns-clause-cost : goal.returns-clause-cost
returns-clause-cost g c =
    let low = c.height-height.ensures.low in
    let count = length_ranked c.args.tree.0 c.args.sums.now c.requires.ranking.bag in
    let h = rw count at (height_limit_greatest c.args.tree.1 (length c.args.tree.0) low.square) in omega arith
