pub mod Sums
pub mod Splits
pub mod Issues
pub mod Runs
pub mod Agrees
pub mod Writings
pub mod Turns
pub mod Replaying
