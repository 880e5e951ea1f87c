pub mod Faults
pub mod Fields
pub mod Held
pub mod Reading
