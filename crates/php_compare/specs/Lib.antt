pub mod Outcomes
pub mod Ordering
pub mod Identity
pub mod Places
pub mod Samples
pub mod Examples
