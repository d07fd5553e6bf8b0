-- What the contracts cite.
pub mod Orders
pub mod Ranges
