pub mod Views
pub mod ReadBack
pub mod Levels
pub mod Commands
