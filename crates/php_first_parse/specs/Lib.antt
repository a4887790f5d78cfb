pub mod Spelling
pub mod Machine
pub mod Answers
pub mod Examples
