pub mod Declared
pub mod Members
pub mod Faults
