-- What the contracts cite.
pub mod Alike
pub mod Lists
pub mod Raising
pub mod Steps
