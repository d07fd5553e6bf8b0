-- What the contract of the command cites.
pub mod Given
pub mod Bounding
pub mod Made
