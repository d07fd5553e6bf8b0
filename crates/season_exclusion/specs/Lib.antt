-- What the contracts cite.
pub mod Broken
pub mod KeptClashes
