-- What the contracts cite.
pub mod text
pub mod Sinks
pub mod SinkLaws
pub mod Views
pub mod Steps
