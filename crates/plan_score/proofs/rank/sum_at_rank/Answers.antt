use Rattle.std.proofs.Common.{arith}
use Rattle.std.proofs.lemmas.List.Elements.{All-contains}
use Rattle.fixed_num.proofs.SignedLemmas.{back_from_abs}
use Rattle.fixed_num.proofs.RankLemmas.{IsMthSmallest-from_sort, mth_smallest_is}
use Rattle.instance_model.specs.Plans.{IsSmallSum}
use Rattle.plan_score.proofs.rank.sum_at_rank.Goals as goal

pub returns-clause-value : goal.returns-clause-value
returns-clause-value c =
    let f = IsMthSmallest-from_sort c.args.rank c.args.sums.now.items c.sort_unstable.new.self.items c.index.result.now
    c.sort_unstable.ensures.sorted c.sort_unstable.ensures.permutation c.requires.from
    c.requires.to c.index.ensures in
    let s = All-contains IsSmallSum c.args.sums.now.items c.index.result.now c.requires.small f.member in
    rw (back_from_abs c.index.result.now (omega (arith, s.small)))
    (mth_smallest_is c.args.rank c.args.sums.now.items c.index.result.now f)

pub returns-clause-small : goal.returns-clause-small
returns-clause-small c =
    let f = IsMthSmallest-from_sort c.args.rank c.args.sums.now.items c.sort_unstable.new.self.items c.index.result.now
    c.sort_unstable.ensures.sorted c.sort_unstable.ensures.permutation c.requires.from
    c.requires.to c.index.ensures in
    let s = All-contains IsSmallSum c.args.sums.now.items c.index.result.now c.requires.small f.member in
    rw (back_from_abs c.index.result.now (omega (arith, s.small))) s
