pub mod Within
pub mod ListAnswer
pub mod FormAnswer
pub mod CaseAnswer
pub mod TryAnswer
pub mod Rows
pub mod Exact
