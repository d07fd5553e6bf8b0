use Rattle.std.proofs.Common.{◌≡◌, ◌-◌, length, ap, ◌∙◌}
use Rattle.std.proofs.lemmas.List.{length-set}
use Rattle.quantile_index.proofs.LateLemmas.{changed_one}
use Rattle.quantile_index.proofs.tree_row.TreeRowRow.replace.Goals as goal

pub invariant_of-self : goal.invariant_of-self
invariant_of-self g c =
    let row = c.self.inside in
    let kept = c.self.invariant in
    let size : length c.change.new.sums ≡ length row.sums.items =
    ap length c.change.ensures.sums ∙ length-set c.deref_mut.result.now (c.args.k - 1) c.args.sum
    ∙ ap length c.deref_mut.ensures.value in
    changed_one c.change.result.0 c.change.new.sums row.sums.items row.keys.items row.sums.len _
    c.change.ensures.ranking size row.sums.ok.0 kept.some kept.few kept.room kept.narrow_room
