pub mod Fronts
pub mod Founds
pub mod Onwards
pub mod Lone
