pub mod CommentLemmas
pub mod KeywordLemmas
pub mod NumberLemmas
pub mod RunLemmas
pub mod TableLemmas
pub mod TemplateLemmas
