pub mod CheckReading
pub mod CheckLemmas
pub mod CheckAnswers
pub mod CheckRun
pub mod CheckComplete
