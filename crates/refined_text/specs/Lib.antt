-- What the contracts cite.
pub mod lines
pub mod text
pub mod grammar
pub mod read
pub mod versions
