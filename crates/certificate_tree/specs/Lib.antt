-- What the contracts cite.
pub mod Trees
pub mod Loads
pub mod Extremes
pub mod Meetings
pub mod Ranges
pub mod Holding
pub mod Validity
pub mod PriceTables
pub mod Laws
pub mod Walk
