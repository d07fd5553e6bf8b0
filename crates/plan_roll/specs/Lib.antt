-- What the contracts cite.
pub mod Rolled
pub mod Begun
pub mod Laws
pub mod Texts
