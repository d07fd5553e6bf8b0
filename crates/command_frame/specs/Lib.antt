-- What the contracts of all commands share.
pub mod Sources
pub mod Lines
pub mod Reports
pub mod Ending
pub mod Bytes
pub mod Openings
pub mod Files
pub mod Kinds
pub mod Refusals
pub mod Writing
pub mod Outputs
pub mod Completing
