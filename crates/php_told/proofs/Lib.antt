pub mod Nodes
pub mod Lists
pub mod ToldLemmas
pub mod Examples
pub mod LeastLemmas
