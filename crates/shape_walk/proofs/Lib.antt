mod Along
mod Counting
mod CountsTaken
mod CountTaken
mod FaultCodes
mod FaultRows
mod FirstIsLeast
mod FlawLemmas
mod KeyLemmas
pub mod Keeping
mod NumberKeyLemmas
pub mod NumberTexts
mod OneMore
mod TextOrder
mod Weighing
pub mod SomeAnswer
