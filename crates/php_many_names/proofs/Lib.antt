mod Loops
mod Lists
pub mod Bridge
mod Limit
