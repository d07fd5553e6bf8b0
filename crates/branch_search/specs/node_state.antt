-- What the contracts cite.
pub mod KeptLoads
pub mod Bands
pub mod Offs
pub mod Exclusions
pub mod Extents
