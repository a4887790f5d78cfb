pub mod Answer
pub mod Exact
pub mod PartView
pub mod Walk
