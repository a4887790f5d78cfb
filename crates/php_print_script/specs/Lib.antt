pub mod statement
pub mod declaration
