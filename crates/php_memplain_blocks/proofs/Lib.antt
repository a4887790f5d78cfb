pub mod MoveLemmas
pub mod ShedLemmas
pub mod ForgetLemmas
pub mod TurnLemmas
