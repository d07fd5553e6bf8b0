pub mod OutcomeLemmas
pub mod AuditComplete
pub mod RepairComplete
pub mod CompleteLemmas
