pub mod Chains
pub mod Layers
pub mod Nodes
pub mod Parts
pub mod Unique
pub mod Unview
