pub mod Examples
pub mod ComparisonExamples
pub mod ArrayExamples
pub mod EvenLemmas
pub mod OutputRules
pub mod AllowanceRules
