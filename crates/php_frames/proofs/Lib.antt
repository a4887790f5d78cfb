pub mod StackLemmas
pub mod ServedLemmas
