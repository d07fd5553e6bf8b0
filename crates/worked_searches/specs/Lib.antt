-- What the contract of a law says.
pub mod Falling
