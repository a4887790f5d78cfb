pub mod Causes
pub mod Straight
pub mod Acting
pub mod Looks
pub mod Operands
pub mod Variables
pub mod Writing
