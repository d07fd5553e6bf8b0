-- What the contracts cite.
pub mod Versions
pub mod AnyTexts
pub mod Laws
