pub mod Counts
pub mod Met
pub mod Gives
pub mod Promise
