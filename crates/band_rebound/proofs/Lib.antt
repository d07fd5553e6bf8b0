pub mod LeafLemmas
pub mod BoundLemmas
pub mod TreeLemmas
pub mod WalkLemmas
pub mod SameLemmas
pub mod ReboundLemmas
