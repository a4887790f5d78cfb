pub mod Lists
mod Views
mod ShapeLemmas
mod WordLemmas
mod UseLemmas
mod WalkLemmas
pub mod Bridge
