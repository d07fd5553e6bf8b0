-- What the contracts cite.
pub mod Solved
pub mod Solving
pub mod Made
