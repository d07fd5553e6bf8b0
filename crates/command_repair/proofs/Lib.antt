pub mod SolutionLemmas
pub mod ReadingLemmas
pub mod RepairRun
