pub mod Stops
pub mod Appends
pub mod Wholes
pub mod Begins
pub mod Says
pub mod statement
pub mod declaration
pub mod Lends
pub mod Instances
pub mod Ends
pub mod Knowns
mod WalkExamples
