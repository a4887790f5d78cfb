pub mod ScopeLemmas
pub mod MoveLemmas
pub mod PlaceLemmas
pub mod EndLemmas
