-- What the contracts of a bound by raised prices and of an audit say.
pub mod Bounding
pub mod Audited
