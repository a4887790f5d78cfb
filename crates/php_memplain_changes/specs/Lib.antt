pub mod Standing
pub mod Taken
pub mod Named
pub mod Joined
