-- What the contracts cite.
pub mod Windows
pub mod Calendar
