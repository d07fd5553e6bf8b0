pub mod HeightLimitLemmas
pub mod BagLemmas
pub mod HeightLemmas
pub mod OrderLemmas
pub mod RankLemmas
pub mod LateLemmas
pub mod KeyLemmas
pub mod TreeLemmas
