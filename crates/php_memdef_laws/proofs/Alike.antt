-- Memories that differ in the numbers of their stores alone.
pub mod Renamings
pub mod Memories
pub mod Scopes
pub mod Places
pub mod NewStores
pub mod Walks
pub mod Totals
pub mod Copies
pub mod Releases
pub mod Temporaries
pub mod Views
pub mod Appends
pub mod Operations
