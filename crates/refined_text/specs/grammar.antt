-- What the contracts cite.
pub mod Further
pub mod Grammar
pub mod SoFar
pub mod Laws
