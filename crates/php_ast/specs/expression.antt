pub mod Tree
pub mod Spelling
pub mod View
pub mod Proper
pub mod Nesting
pub mod Placed
pub mod Parts
