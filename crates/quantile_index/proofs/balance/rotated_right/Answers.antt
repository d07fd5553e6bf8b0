use Rattle.quantile_index.proofs.OrderLemmas.{ordered_inner_left, ordered_inner_right}
use Rattle.quantile_index.proofs.balance.rotated_right.Goals as goal

pub fork-side-requires-clause-ordered : goal.fork-side-requires-clause-ordered
fork-side-requires-clause-ordered c =
    let s = rw c.into_parts-outer.ensures.entries at c.requires.ordered in ordered_inner_right _ _ _ _ _ s

pub fork-left-requires-clause-ordered : goal.fork-left-requires-clause-ordered
fork-left-requires-clause-ordered c =
    let s = rw c.into_parts-low.ensures.entries at c.into_parts-outer.ensures.ordered in ordered_inner_left _ _ _ _ _ s

pub fork-right-requires-clause-ordered : goal.fork-right-requires-clause-ordered
fork-right-requires-clause-ordered c =
    let s = rw c.into_parts-outer.ensures.entries at c.requires.ordered in
    let t = ordered_inner_right _ _ _ _ _ s in
    let u = rw c.into_parts-low.ensures.entries at t in ordered_inner_right _ _ _ _ _ u
