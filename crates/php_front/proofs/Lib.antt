pub mod Beginnings
pub mod Faults
pub mod Causes
pub mod Unique
