pub mod OverLemmas
pub mod OwnLemmas
mod Views
mod TestLemmas
mod Lists
pub mod OwnBridge
pub mod Bridge
