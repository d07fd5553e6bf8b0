-- What the contracts cite.
pub mod Descents
pub mod Progress
pub mod Ends
pub mod Openings
