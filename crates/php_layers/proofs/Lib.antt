pub mod LayerLemmas
