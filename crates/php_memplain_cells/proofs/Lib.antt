pub mod SlotLemmas
pub mod LoadLemmas
pub mod FirstLemmas
pub mod ObjectLemmas
pub mod FallingLemmas
pub mod MemoryLemmas
pub mod BoundLemmas
