-- Each part of a memory is as it should be.
pub mod Parts
pub mod Copies
pub mod Writes
pub mod Releases
pub mod Operations
