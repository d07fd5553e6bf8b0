pub mod LeafLemmas
pub mod FlatLemmas
pub mod StepLemmas
pub mod VerdictLemmas
