-- What the contract of the command cites.
pub mod Rehearsed
pub mod Rehearsing
