pub mod ReadingLemmas
pub mod MakingLemmas
pub mod ReboundAnswers
pub mod ReboundRun
pub mod ReboundComplete
