pub mod WordLemmas
pub mod KeywordLemmas
pub mod NumberLemmas
pub mod PlaceLemmas
pub mod FormLemmas
pub mod PieceLemmas
pub mod LawLemmas
