pub mod LineLemmas
pub mod LawLemmas
pub mod ReadLemmas
pub mod PieceLemmas
pub mod WrittenLemmas
pub mod ReplayLemmas
pub mod ToldLemmas
