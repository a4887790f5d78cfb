pub mod MeansLemmas
pub mod EnterLemmas
pub mod CopyLemmas
pub mod ChangeLemmas
pub mod WroteLemmas
pub mod ChangingLemmas
