pub mod First
pub mod Parts
pub mod Least
pub mod Noted
