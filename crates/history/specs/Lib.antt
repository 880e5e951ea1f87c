pub mod Latest
pub mod Entries
pub mod Puts
pub mod Questions
