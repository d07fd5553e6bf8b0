use Rattle.std.proofs.Common.{◌≤◌, subst, sym}
use Rattle.refined_prices.specs.Offsets.{group_tail_at, group_count}
use Rattle.refined_text.specs.read.Parts.{Part}
use Rattle.refined_text.proofs.ReadFewLemmas.{group_counts}
use Rattle.refined_text.proofs.read.part.PartList.take_offset.Goals as goal

pub offset_in-requires-clause-few : goal.offset_in-requires-clause-few
offset_in-requires-clause-few c = λ u from to.
    let few = group_counts c.args.inst.now c.args.self.now c.fits.ensures c.requires.part u from to in
    rw c.as_slice.ensures.value (subst (λ (p : Part). group_count (group_tail_at p.further.tails u) ≤ 1025)
    (sym c.self.view_is) few)
