pub mod Changes
pub mod Means
