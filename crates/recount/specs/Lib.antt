pub mod Layers
pub mod Fronts
