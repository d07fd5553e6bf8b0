-- Lemmas of the command.
pub mod UndoneLemmas
pub mod RehearsalLemmas
pub mod RehearseRun
