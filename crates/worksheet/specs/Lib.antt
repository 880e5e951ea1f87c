pub mod Figures
pub mod Lines
pub mod Tables
