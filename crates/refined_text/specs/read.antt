-- What the contracts cite.
pub mod Faults
pub mod Laws
pub mod Parts
pub mod Reading
pub mod Taking
