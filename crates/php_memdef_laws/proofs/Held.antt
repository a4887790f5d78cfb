-- What is there has a holder.
pub mod Parts
pub mod Temporaries
pub mod Writes
pub mod Removals
pub mod Releases
pub mod Copies
pub mod Binds
pub mod Operations
