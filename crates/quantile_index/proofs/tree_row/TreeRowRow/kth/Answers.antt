use Rattle.std.proofs.Common.{◌≤◌, length, sym, ap, subst, arith}
use Rattle.fixed_num.proofs.RankLemmas.{mth_smallest_is}
use Rattle.quantile_index.specs.LateRanking.{IsTreeRow}
use Rattle.quantile_index.proofs.LateLemmas.{kth_key}
use Rattle.quantile_index.proofs.RankLemmas.{kth_at}
use Rattle.quantile_index.proofs.tree_row.TreeRowRow.kth.Goals as goal

pub returns-then-self-clause-kth : goal.returns-then-self-clause-kth
returns-then-self-clause-kth g c =
    let row = c.self.inside in
    let sums = row.sums.items in
    let keys = row.keys.items in
    let behind = subst (λ b. IsTreeRow b row.tree.0 sums keys (length row.narrow.items)) c.if-self.true
    c.self.invariant in
    let last : c.args.m ≤ length sums = omega (arith, c.requires.last, ap length c.self.view_is) in
    rw (sym c.self.view_is) (kth_key row.tree.0 sums keys (length row.narrow.items) c.args.m c.index.result.now
    c.entry_at.result behind c.requires.first last c.index.ensures c.entry_at.ensures)

pub returns-then-self-clause-value : goal.returns-then-self-clause-value
returns-then-self-clause-value g c =
    mth_smallest_is c.args.m c.args.self.now _ (returns-then-self-clause-kth g c)

pub returns-else-self-clause-kth : goal.returns-else-self-clause-kth
returns-else-self-clause-kth g c =
    let kept = c.self.invariant.kept c.if-self.false in
    rw (sym c.self.view_is) (kth_at _ _ c.args.m _ kept c.requires.first c.sum_at.ensures)

pub returns-else-self-clause-value : goal.returns-else-self-clause-value
returns-else-self-clause-value g c =
    mth_smallest_is c.args.m c.args.self.now _ (returns-else-self-clause-kth g c)
