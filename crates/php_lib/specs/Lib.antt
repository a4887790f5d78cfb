pub mod Answers
pub mod Comparing
