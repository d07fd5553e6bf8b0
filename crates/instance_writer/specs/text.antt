-- What the contracts cite.
pub mod Conditions
pub mod Styles
pub mod Written
