pub mod expression
pub mod Run
pub mod statement
pub mod TooDeep
pub mod declaration
pub mod Begins
