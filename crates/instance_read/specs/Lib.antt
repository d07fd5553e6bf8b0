pub mod Faults
pub mod Fed
pub mod Keepers
pub mod Keeping
pub mod Readers
pub mod Reading
pub mod PartFaults
