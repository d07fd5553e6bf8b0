pub mod GivenLemmas
pub mod ReadingLemmas
pub mod SolutionLemmas
pub mod ImproveRun
pub mod ImproveComplete
