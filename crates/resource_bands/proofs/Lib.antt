pub mod ChangeLemmas
pub mod OverLemmas
pub mod WalkLemmas
pub mod AboveLemmas
