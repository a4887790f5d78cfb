pub mod Stops
pub mod Readings
pub mod Shapes
pub mod Falls
pub mod Lives
pub mod Needs
