pub mod Tally
pub mod Met
pub mod Promise
