pub mod Rows
pub mod Lookups
pub mod Faults
