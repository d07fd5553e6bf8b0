-- What the contracts cite.
pub mod Machine
pub mod Builder
pub mod Sound
pub mod Reads
pub mod Answers
pub mod Value
pub mod Spelling
pub mod Spellable
pub mod Placed
