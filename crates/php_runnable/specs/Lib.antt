pub mod Told
pub mod Arguments
pub mod Begins
pub mod Examples
