-- What the contracts cite.
pub mod Improving
pub mod Steps
