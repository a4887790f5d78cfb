pub mod Seen
pub mod Counts
pub mod Falls
pub mod Dropped
pub mod Memory
