pub mod WalkLemmas
pub mod PlaceLemmas
pub mod ObjectLemmas
pub mod OutcomeLemmas
pub mod ElementLemmas
