pub mod CellLemmas
pub mod FootnoteLemmas
pub mod InlineLemmas
pub mod ModeLemmas
