pub mod SwapLemmas
pub mod TakeLemmas
pub mod FallLemmas
pub mod ObjectLemmas
pub mod NameLemmas
pub mod RemoveLemmas
pub mod AppendLemmas
