pub mod GivenLemmas
pub mod ReadingLemmas
pub mod IncumbentLemmas
pub mod LeastLemmas
pub mod MadeLemmas
pub mod BoundRun
pub mod EndingLemmas
