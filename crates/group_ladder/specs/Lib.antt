-- What the contracts cite.
pub mod Search
