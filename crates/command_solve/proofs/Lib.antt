-- Lemmas of the command.
pub mod RootLemmas
pub mod AnswerLemmas
pub mod ChangeLemmas
pub mod PlanLemmas
pub mod SolutionLemmas
pub mod MakingLemmas
pub mod ReportLemmas
pub mod SolveRun
