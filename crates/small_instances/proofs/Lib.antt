pub mod SketchLemmas
