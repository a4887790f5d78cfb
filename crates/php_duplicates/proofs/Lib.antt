mod Lists
mod Labels
mod Views
pub mod Bridge
mod SeenLemmas
mod ScriptLemmas
