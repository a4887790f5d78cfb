pub mod Fails
pub mod Growth
pub mod Lookup
pub mod Streams
