pub mod Halves
pub mod Halved
