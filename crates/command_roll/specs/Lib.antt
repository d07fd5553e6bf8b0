-- What the contracts cite.
pub mod Rolling
pub mod Made
