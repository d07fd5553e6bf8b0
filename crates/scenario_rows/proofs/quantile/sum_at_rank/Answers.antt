use Rattle.std.proofs.Common.{◌++◌, ◌∷◌, subst, arith, ℤ, List}
use Rattle.std.proofs.lemmas.List.Elements.{All-contains}
use Rattle.std.specs.List.Sorted.{IsPermutation}
use Rattle.fixed_num.proofs.SignedLemmas.{back_from_abs}
use Rattle.fixed_num.proofs.RankLemmas.{mth_smallest_is}
use Rattle.instance_model.specs.Plans.{IsSmallSum}
use Rattle.scenario_rows.proofs.QuantileLemmas.{IsMthSmallest-from_split}
use Rattle.scenario_rows.proofs.quantile.sum_at_rank.Goals as goal

pub returns-clause-value : goal.returns-clause-value
returns-clause-value g c =
    let parts = c.select_nth_unstable-found.result in
    let q = parts.1.now in
    let p = subst (λ (xs : List ℤ). IsPermutation xs (parts.0.now ++ q ∷ parts.2.now)) c.read_sums.ensures.values
    c.select_nth_unstable-found.ensures.permutation in
    let f = IsMthSmallest-from_split c.args.rank c.args.sums.now parts.0.now parts.2.now q p
    c.select_nth_unstable-found.ensures.partitioned c.requires.from c.select_nth_unstable-found.ensures.front_len in
    let s = All-contains IsSmallSum c.args.sums.now q c.requires.row.small f.member in
    rw (back_from_abs q (omega (arith, s.small))) (mth_smallest_is c.args.rank c.args.sums.now q f)

pub returns-clause-small : goal.returns-clause-small
returns-clause-small g c =
    let parts = c.select_nth_unstable-found.result in
    let q = parts.1.now in
    let p = subst (λ (xs : List ℤ). IsPermutation xs (parts.0.now ++ q ∷ parts.2.now)) c.read_sums.ensures.values
    c.select_nth_unstable-found.ensures.permutation in
    let f = IsMthSmallest-from_split c.args.rank c.args.sums.now parts.0.now parts.2.now q p
    c.select_nth_unstable-found.ensures.partitioned c.requires.from c.select_nth_unstable-found.ensures.front_len in
    let s = All-contains IsSmallSum c.args.sums.now q c.requires.row.small f.member in
    rw (back_from_abs q (omega (arith, s.small))) s
