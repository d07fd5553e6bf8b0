-- What the contracts cite.
pub mod CapTables
pub mod GroupTests
pub mod ListTests
pub mod GroupTerms
pub mod OffsetRows
pub mod OffsetSums
pub mod PaidSums
pub mod LoadCosts
pub mod RefinedRows
