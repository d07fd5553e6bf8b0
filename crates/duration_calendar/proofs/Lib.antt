pub mod WindowLemmas
