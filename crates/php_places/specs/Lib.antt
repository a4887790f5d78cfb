pub mod Over
pub mod Uses
pub mod Spots
pub mod Met
pub mod Elements
pub mod Shapes
pub mod Faults
