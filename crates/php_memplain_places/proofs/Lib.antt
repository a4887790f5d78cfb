pub mod SlotsLemmas
pub mod StepLemmas
pub mod SearchLemmas
pub mod TotalLemmas
