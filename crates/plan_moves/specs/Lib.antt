-- What the contracts cite.
pub mod KeptPlans
pub mod Changing
pub mod Scripts
pub mod Boards
pub mod Trails
