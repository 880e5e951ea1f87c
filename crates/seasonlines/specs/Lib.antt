pub mod Slips
pub mod Verbs
pub mod Lists
pub mod Tuples
pub mod Entries
