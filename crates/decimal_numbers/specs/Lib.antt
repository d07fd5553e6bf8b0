pub mod Decimal
pub mod Exact
pub mod Scaling
pub mod Tallies
