pub mod KeptLemmas
pub mod PageLemmas
