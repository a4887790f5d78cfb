mod Examples
mod Readings
pub mod Starts
pub mod Parts
pub mod Back
pub mod LawProofs
pub mod Sizes
pub mod Notes
pub mod Shifts
pub mod Trace
pub mod TraceBack
