-- What the contracts cite.
pub mod RefinedKind
