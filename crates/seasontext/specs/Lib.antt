pub mod Texts
pub mod Runs
pub mod Seen
pub mod Sums
pub mod Seasons
pub mod Openings
pub mod Agreeing
