use Rattle.std.proofs.Common.{◌<◌, ◌-◌, length, sym, ap, arith}
use Rattle.fixed_num.proofs.RankLemmas.{mth_smallest_is}
use Rattle.quantile_index.proofs.BagLemmas.{length_ranked}
use Rattle.quantile_index.proofs.RankLemmas.{kth_at}
use Rattle.quantile_index.proofs.OrderLemmas.{sum_at_place}
use Rattle.quantile_index.proofs.flat_row.FlatRowRow.kth.Goals as goal

pub index-requires : goal.index-requires
index-requires g c =
    let count = length_ranked _ c.self.inside.sums.items c.self.invariant.ranking.bag in
    omega (arith, ap length c.self.view_is, c.requires.first, c.requires.last, c.self.inside.entries.ok)

pub returns-clause-kth : goal.returns-clause-kth
returns-clause-kth g c =
    let entries = c.self.inside.entries.items in
    let count = length_ranked _ c.self.inside.sums.items c.self.invariant.ranking.bag in
    let within : c.args.m - 1 < length entries =
    omega (arith, ap length c.self.view_is, c.requires.first, c.requires.last) in
    let at = sum_at_place entries (c.args.m - 1) c.index.result.now within c.index.ensures in
    rw (sym c.self.view_is) (kth_at _ _ c.args.m _ c.self.invariant.ranking c.requires.first at)

pub returns-clause-value : goal.returns-clause-value
returns-clause-value g c = mth_smallest_is c.args.m c.args.self.now _ (returns-clause-kth g c)
