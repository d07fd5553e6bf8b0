pub mod EvaluateLemmas
pub mod EvaluateAnswers
pub mod EvaluateRun
