-- What the contract of the command cites.
pub mod Checking
pub mod Standing
