pub mod Role
pub mod Forms
pub mod Machine
pub mod Reading
pub mod Depth
pub mod Laws
