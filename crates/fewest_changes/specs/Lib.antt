-- What the contracts cite.
pub mod Openings
pub mod Incumbents
pub mod Repaired
