pub mod Rows
pub mod Sendings
