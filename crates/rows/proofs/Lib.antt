pub mod Tamed
