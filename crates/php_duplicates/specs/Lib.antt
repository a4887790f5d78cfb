pub mod Over
pub mod Saw
pub mod NamesTaken
pub mod Met
pub mod Promise
