pub mod Buffers
pub mod Backs
pub mod Agains
