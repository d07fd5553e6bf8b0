-- What the contracts cite.
pub mod Rebinding
pub mod Rebounds
pub mod Steps
