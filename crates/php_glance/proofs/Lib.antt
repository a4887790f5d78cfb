pub mod GlanceLemmas
