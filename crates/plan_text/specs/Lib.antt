pub mod Spelling
pub mod FirstFault
pub mod Runs
pub mod Steps
pub mod Laws
