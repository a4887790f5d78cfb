pub mod Statements
pub mod Declarations
