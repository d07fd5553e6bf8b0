use Rattle.std.proofs.Common.{◌≡◌, ◌+◌, ◌-◌, pos, refl, arith}
use Rattle.quantile_index.proofs.BagLemmas.{bag_changed, rest_new, taken_sum, scenario_counted, IsChange}
use Rattle.quantile_index.proofs.OrderLemmas.{ordered_less}
use Rattle.quantile_index.proofs.flat_row.change.Goals as goal

pub take_out-old-requires : goal.take_out-old-requires
take_out-old-requires g c =
    scenario_counted _ c.args.sums.now (c.args.k - 1) c.args.k c.requires.ranking.bag (omega arith) (omega arith)

pub put_in-requires-clause-ordered : goal.put_in-requires-clause-ordered
put_in-requires-clause-ordered g c = ordered_less _ _ _ c.take_out-old.ensures.removed c.requires.ranking.ordered

pub put_in-requires-clause-new : goal.put_in-requires-clause-new
put_in-requires-clause-new g c =
    let removed = c.take_out-old.ensures.removed in
    let scenario : c.take_out-old.result.scenario ≡ 1 + (c.args.k - 1) =
    omega (arith, c.take_out-old.ensures.scenario) in
    let change : IsChange 1 c.args.sums.now (c.args.k - 1) c.args.sum c.take_out-old.result _ = record {
      within = omega arith;
      default = pos 0;
      old_sum = taken_sum _ _ c.args.sums.now (c.args.k - 1) (pos 0) c.take_out-old.result
          c.requires.ranking.bag removed scenario;
      old_scenario = scenario;
      new_sum = refl;
      new_scenario = omega arith;
    } in
    rest_new _ _ c.args.sums.now (c.args.k - 1) c.args.sum _ _ c.requires.ranking.bag change removed

pub returns-clause-ranking : goal.returns-clause-ranking
returns-clause-ranking g c =
    let removed = c.take_out-old.ensures.removed in
    let inserted = c.put_in.ensures.inserted in
    let scenario : c.take_out-old.result.scenario ≡ 1 + (c.args.k - 1) =
    omega (arith, c.take_out-old.ensures.scenario) in
    let change : IsChange 1 c.args.sums.now (c.args.k - 1) c.args.sum c.take_out-old.result _ = record {
      within = omega arith;
      default = pos 0;
      old_sum = taken_sum _ _ c.args.sums.now (c.args.k - 1) (pos 0) c.take_out-old.result
          c.requires.ranking.bag removed scenario;
      old_scenario = scenario;
      new_sum = refl;
      new_scenario = omega arith;
    } in
    record {
      ordered = c.put_in.ensures.ordered;
      bag = bag_changed _ _ _ c.args.sums.now (c.args.k - 1) c.args.sum _ _ c.requires.ranking.bag
          change removed inserted;
    }
