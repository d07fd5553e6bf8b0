-- What the contracts cite.
pub mod Reports
pub mod Texts
pub mod Laws
pub mod Figures
