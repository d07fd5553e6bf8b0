-- What the contracts cite.
pub mod Verdicts
