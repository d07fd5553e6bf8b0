pub mod ScriptLemmas
pub mod FallLemmas
