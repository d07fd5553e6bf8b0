-- What the contract of the command cites.
pub mod Rebinding
pub mod Made
