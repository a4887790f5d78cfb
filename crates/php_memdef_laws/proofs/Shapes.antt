-- What operations make of the shapes of blocks.
pub mod Parts
pub mod Writes
pub mod Operations
