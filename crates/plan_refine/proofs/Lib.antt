pub mod OutcomeLemmas
pub mod BoundComplete
pub mod CompleteLemmas
