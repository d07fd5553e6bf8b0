-- What the contracts cite.
pub mod Files
pub mod Numbers
pub mod Ends
pub mod Parsing
