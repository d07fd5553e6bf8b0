pub mod KeyLemmas
pub mod ChangeLemmas
pub mod LeadsLemmas
pub mod SweepLemmas
pub mod BestLemmas
pub mod DescentLemmas
pub mod EndLemmas
pub mod OpeningLemmas
