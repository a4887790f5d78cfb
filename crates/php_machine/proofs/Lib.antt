pub mod SilentLemmas
pub mod AgreeLemmas
pub mod LongerLemmas
pub mod EndLemmas
pub mod FrameWeightLemmas
pub mod OutputLemmas
pub mod AllowanceLemmas
