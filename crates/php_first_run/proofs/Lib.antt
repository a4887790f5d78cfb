pub mod Lists
pub mod Folds
pub mod Written
