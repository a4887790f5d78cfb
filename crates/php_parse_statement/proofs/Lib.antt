pub mod Lists
pub mod Looping
pub mod Listing
pub mod Cases
pub mod Guards
pub mod Chosen
pub mod Blanks
pub mod Outermost
mod Exactly
pub mod Flats
