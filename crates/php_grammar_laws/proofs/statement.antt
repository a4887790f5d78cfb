pub mod Sound
pub mod Steps
pub mod Places
pub mod Laws
