pub mod TempLemmas
pub mod ContentLemmas
pub mod LiveLemmas
