pub mod CountLemmas
pub mod LeastLemmas
pub mod TrialLemmas
