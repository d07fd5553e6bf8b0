-- What the contracts cite.
pub mod BoardLoads
pub mod Gaps
pub mod StartChanges
