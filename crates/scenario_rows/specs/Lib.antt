-- What the contracts cite.
pub mod RiskStates
pub mod RunChanges
pub mod Bounds
pub mod Parts
pub mod Changes
pub mod Shifts
