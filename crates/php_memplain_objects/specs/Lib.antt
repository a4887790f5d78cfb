pub mod Making
pub mod Cloning
