pub mod Flats
mod FlatExamples
pub mod Runs
pub mod Views
