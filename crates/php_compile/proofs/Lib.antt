pub mod Stands
pub mod Follow
pub mod Agreement
pub mod Lists
pub mod NameLoops
pub mod Variables
pub mod CodeLoops
