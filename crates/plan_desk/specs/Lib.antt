-- What contracts say of a desk.
pub mod Desk
pub mod Faults
pub mod Contents
pub mod Calls
pub mod Stored
pub mod Mem
pub mod Real
pub mod Names
pub mod Written
pub mod FileWrites
