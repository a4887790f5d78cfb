pub mod Tables
pub mod Examples
pub mod ScalarLemmas
