-- What the contracts cite.
pub mod Values
pub mod Verdict
pub mod Periods
