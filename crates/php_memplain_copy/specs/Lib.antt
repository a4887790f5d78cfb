pub mod Copying
pub mod More
pub mod Walking
pub mod Steps
