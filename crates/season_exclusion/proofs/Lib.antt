pub mod CountLemmas
pub mod BrokenLemmas
pub mod NamedLemmas
pub mod OverLemmas
