-- What the contracts cite.
pub mod Faults
pub mod Laws
pub mod Lines
pub mod Reading
