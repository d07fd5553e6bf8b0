-- What the contracts cite.
pub mod Naturals
pub mod Limits
pub mod Tables
pub mod Fitting
pub mod View
pub mod Indexed
pub mod Plans
pub mod Values
pub mod Rules
pub mod Keys
pub mod Exact
pub mod RiskLists
pub mod RiskNumbers
pub mod RunRisks
pub mod Fields
