-- What the contract of the command cites.
pub mod Replaying
pub mod Opened
