pub mod CallerLemmas
