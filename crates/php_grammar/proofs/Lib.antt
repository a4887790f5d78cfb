pub mod expression
pub mod declaration
pub mod statement
pub mod Inside
pub mod Machines
pub mod Deepened
