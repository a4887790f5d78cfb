pub mod Served
pub mod Stack
