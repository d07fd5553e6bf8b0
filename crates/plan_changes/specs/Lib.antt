-- What the contracts cite.
pub mod Changes
pub mod GoalLemmas
pub mod Returning
