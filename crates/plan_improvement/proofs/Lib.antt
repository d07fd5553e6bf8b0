pub mod FallLemmas
pub mod OpeningLemmas
pub mod ScoreLemmas
pub mod StepLemmas
