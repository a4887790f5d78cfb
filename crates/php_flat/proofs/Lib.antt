pub mod Nodes
mod Examples
pub mod Lists
