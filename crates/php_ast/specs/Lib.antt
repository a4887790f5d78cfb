pub mod Symbol
pub mod Operators
pub mod expression
pub mod Power
pub mod statement
pub mod declaration
