pub mod WordLemmas
pub mod StartLemmas
pub mod ProgramLemmas
pub mod TreeLemmas
