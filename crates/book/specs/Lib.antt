pub mod Gates
pub mod Issues
pub mod Kept
pub mod Readings
pub mod Sharing
pub mod Statements
pub mod Volumes
