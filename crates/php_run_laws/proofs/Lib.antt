pub mod Allowances
pub mod Narrowings
pub mod Owings
pub mod Scripts
