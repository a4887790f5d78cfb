pub mod Statements
pub mod Signatures
pub mod Functions
pub mod Members
pub mod Scripts
pub mod Walks
pub mod Ends
