pub mod Lists
pub mod Parts
pub mod Site
pub mod Chain
