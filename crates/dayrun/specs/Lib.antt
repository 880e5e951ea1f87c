pub mod Files
pub mod Calls
pub mod Texts
pub mod Seen
