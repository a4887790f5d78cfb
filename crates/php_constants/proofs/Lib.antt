mod Views
mod ChainLemmas
