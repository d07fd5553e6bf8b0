pub mod BoardLemmas
pub mod KeyLemmas
pub mod TrailLemmas
pub mod ChangingLemmas
pub mod RunLemmas
pub mod AboveLemmas
