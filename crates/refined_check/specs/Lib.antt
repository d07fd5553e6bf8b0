-- What the contracts cite.
pub mod certificate
pub mod Worths
pub mod Validity
pub mod Laws
pub mod Singles
