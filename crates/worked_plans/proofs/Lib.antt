mod FeasibleLemmas
pub mod MoveLemmas
