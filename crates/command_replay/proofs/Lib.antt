pub mod ReplayReading
pub mod ReplayLemmas
pub mod ReplayAnswers
pub mod ReplayRun
