pub mod AuditReading
pub mod AuditLemmas
pub mod AuditAnswers
pub mod AuditRun
