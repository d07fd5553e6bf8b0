-- What the contracts cite.
pub mod Text
pub mod Grammar
pub mod Entries
pub mod Laws
pub mod Steps
pub mod Lengths
pub mod read
