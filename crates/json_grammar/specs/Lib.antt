-- What the contracts cite.
pub mod Tree
pub mod Grammar
pub mod Prefix
pub mod Bytes
pub mod Token
pub mod Split
pub mod Trees
pub mod Events
pub mod Stream
pub mod laws
