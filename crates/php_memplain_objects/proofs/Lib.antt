pub mod MakeLemmas
pub mod ElementLemmas
pub mod PropertyLemmas
pub mod CloneLemmas
pub mod HandleLemmas
