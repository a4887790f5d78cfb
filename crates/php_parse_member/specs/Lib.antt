pub mod LeadView
pub mod Walk
pub mod Answer
pub mod RuleAnswer
