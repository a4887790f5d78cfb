pub mod Answer
pub mod Exact
pub mod Look
pub mod Owner
pub mod RoleView
pub mod Walk
