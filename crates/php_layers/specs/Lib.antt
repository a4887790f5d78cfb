pub mod Layers
pub mod AgreeLayers
