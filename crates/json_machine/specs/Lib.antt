pub mod Views
pub mod Machines
pub mod NumberRuns
