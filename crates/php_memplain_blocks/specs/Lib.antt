pub mod Rooms
pub mod Variables
