pub mod RunLemmas
pub mod LiftLemmas
pub mod StepLemmas
pub mod EndingLemmas
pub mod TickLemmas
pub mod LoopLemmas
