-- What contracts say of ladder steps and of raised price lists.
pub mod Places
pub mod Tails
pub mod Steps
pub mod Raised
pub mod Tried
pub mod Weights
pub mod Kept
pub mod Beside
pub mod Phase
