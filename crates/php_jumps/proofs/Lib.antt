mod LevelLemmas
mod CountLemmas
mod Lists
mod Views
pub mod Bridge
mod ScriptLemmas
