-- What the contracts cite.
pub mod Groups
pub mod Offsets
pub mod GroupBases
pub mod Caps
pub mod Cliques
pub mod RefinedLists
pub mod RefinedWorth
pub mod RefinedSizes
pub mod tables
