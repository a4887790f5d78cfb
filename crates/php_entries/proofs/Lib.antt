pub mod ChangeLemmas
pub mod Examples
pub mod KeyLemmas
pub mod ListLemmas
pub mod MapLemmas
pub mod SoundLemmas
