pub mod Unreads
pub mod Readings
pub mod PullViews
pub mod Pulls
pub mod Steps
pub mod CountedNumbers
pub mod Counts
pub mod NumberKeys
