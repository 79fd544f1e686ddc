pub mod ActionLemmas
pub mod OpenedLemmas
