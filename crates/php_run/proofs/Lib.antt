pub mod Digits
pub mod Parts
pub mod Shapes
pub mod Comes
pub mod Counts
pub mod Runs
