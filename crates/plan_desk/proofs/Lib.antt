-- Lemmas of desks.
pub mod Appended
pub mod Places
pub mod Unread
pub mod Kept
pub mod Composed
pub mod Written
pub mod FileWrites
