pub mod WitnessLemmas
