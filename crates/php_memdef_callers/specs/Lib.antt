pub mod Assignments
pub mod Witnesses
