pub mod Keys
pub mod Listing
pub mod Changes
pub mod Soundness
