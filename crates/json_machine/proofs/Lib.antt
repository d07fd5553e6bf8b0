pub mod Levels
pub mod Runs
pub mod PlainNumbers
pub mod WholeKeys
