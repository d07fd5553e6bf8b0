pub mod BandLemmas
pub mod EnclosureLemmas
pub mod ClashLemmas
pub mod PeriodLemmas
pub mod TotalLemmas
