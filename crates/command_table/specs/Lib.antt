-- What the contract of the command cites.
pub mod Tabling
pub mod Read
