pub mod StraightLemmas
pub mod OperandLemmas
pub mod ActLemmas
pub mod OperatorLemmas
pub mod WriteLemmas
pub mod VariableLemmas
pub mod JoinLemmas
