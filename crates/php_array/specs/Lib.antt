pub mod Answers
pub mod Heads
pub mod Index
pub mod Kept
pub mod Lends
pub mod Slot
pub mod Slots
