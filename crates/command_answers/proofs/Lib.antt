-- Why valid certificates are accepted.
pub mod BoundLemmas
pub mod AcceptLemmas
pub mod AuditableLemmas
