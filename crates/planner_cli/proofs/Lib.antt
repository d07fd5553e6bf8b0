pub mod OutcomeLemmas
pub mod EvaluateComplete
pub mod ReplayComplete
pub mod SolveComplete
pub mod TableComplete
pub mod RollComplete
pub mod RehearseComplete
pub mod CompleteLemmas
