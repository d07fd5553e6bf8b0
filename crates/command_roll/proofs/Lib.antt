pub mod RollNames
pub mod RollLemmas
pub mod RollAnswers
pub mod RollRun
