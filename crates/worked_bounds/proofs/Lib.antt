pub mod BoundLemmas
pub mod AuditLemmas
