-- Every store that is named is there.
pub mod Parts
pub mod Temporaries
pub mod Writes
pub mod Releases
pub mod Operations
