pub mod Fails
pub mod Answers
