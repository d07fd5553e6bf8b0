-- What the contracts cite.
pub mod Repairing
pub mod Made
