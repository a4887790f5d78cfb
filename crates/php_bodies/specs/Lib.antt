pub mod Own
pub mod Met
pub mod Sites
