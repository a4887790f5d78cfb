mod Examples
mod FormExamples
pub mod Roles
pub mod Sound
pub mod Fill
pub mod Settle
pub mod SoundSteps
pub mod SoundLists
pub mod Soundness
pub mod Trees
pub mod Steps
pub mod ReadBack
pub mod Appended
pub mod Notes
pub mod LawProofs
pub mod RulesAgree
pub mod TraceSteps
pub mod TraceBack
pub mod Sizes
pub mod Walks
pub mod Shifts
