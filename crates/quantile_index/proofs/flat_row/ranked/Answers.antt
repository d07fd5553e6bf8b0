use Rattle.std.proofs.Common.{refl, arith}
use Rattle.quantile_index.proofs.BagLemmas.{bag_grown, next_new}
use Rattle.quantile_index.proofs.flat_row.ranked.Goals as goal

pub put_in-requires-clause-new : goal.put_in-requires-clause-new
put_in-requires-clause-new g c =
    next_new _ c.args.from.now c.loop-i.i _ c.loop-i-test.true c.loop-i.invariant.ranking.bag refl

pub loop-i-preserved : goal.loop-i-preserved
loop-i-preserved g c =
    let had = c.loop-i.invariant.ranking.bag in
    let inserted = c.put_in.ensures.inserted in
    record {
      ranking = record {
        ordered = c.put_in.ensures.ordered;
        bag = bag_grown _ _ c.args.from.now c.loop-i.i c.index-from-i.result _ c.loop-i-test.true had
            c.index-from-i.is refl inserted;
      };
      len = omega arith;
      room = omega arith;
    }
