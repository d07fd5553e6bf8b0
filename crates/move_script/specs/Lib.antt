pub mod Spelling
pub mod FirstFault
pub mod Steps
pub mod Replays
pub mod LineFaults
pub mod Laws
