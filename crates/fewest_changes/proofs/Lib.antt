pub mod OpeningLemmas
pub mod IncumbentLemmas
pub mod RepairLemmas
pub mod MadeLemmas
