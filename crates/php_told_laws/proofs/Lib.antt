mod NumberLemmas
mod ToldLemmas
