pub mod Words
pub mod Pieces
pub mod Numbers
pub mod Fields
pub mod Left
pub mod Hex
