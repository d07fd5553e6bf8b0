pub mod LineLemmas
pub mod DigitLemmas
pub mod NameLemmas
pub mod NumeralLemmas
pub mod CutLemmas
