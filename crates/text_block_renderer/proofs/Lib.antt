pub mod LinkLaws
pub mod NumberLemmas
pub mod PartLemmas
