pub mod CutLemmas
pub mod KeepLemmas
pub mod LineLemmas
pub mod ReadingLemmas
pub mod SteppingLemmas
