pub mod Scalars
pub mod Evaluation
pub mod Running
pub mod Walking
pub mod Examples
