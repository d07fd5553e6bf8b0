pub mod Rounding
pub mod Tallying
pub mod Capped
pub mod OneWord
pub mod ExactLaws
