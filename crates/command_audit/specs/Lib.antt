-- What the contract of the command cites.
pub mod Auditing
