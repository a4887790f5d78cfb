pub mod Examples
pub mod FirstLemmas
pub mod HasLemmas
pub mod SequenceLemmas
