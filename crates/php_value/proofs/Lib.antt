pub mod Powers
pub mod Prefixes
pub mod Numerals
pub mod Reading
