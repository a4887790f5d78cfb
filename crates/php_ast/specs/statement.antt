pub mod Tree
pub mod Spelling
pub mod Proper
pub mod Nesting
pub mod Placed
pub mod View
pub mod Parts
