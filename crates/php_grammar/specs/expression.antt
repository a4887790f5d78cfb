pub mod Role
pub mod Machine
pub mod Depth
pub mod Laws
pub mod Rules
