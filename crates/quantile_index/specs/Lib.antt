-- What the contracts cite.
pub mod HeightLimit
pub mod HeightLaws
pub mod Order
pub mod Ranking
pub mod LateRanking
pub mod Row
pub mod SortKeys
pub mod Tree
