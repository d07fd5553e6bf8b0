pub mod WholeYear
pub mod TableLemmas
pub mod TableAnswers
pub mod TableRun
