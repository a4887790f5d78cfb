pub mod Moves
pub mod Control
pub mod Machine
pub mod Same
pub mod Ends
pub mod Outputs
pub mod Allowance
