pub mod Print
pub mod expression
