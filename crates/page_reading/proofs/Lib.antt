pub mod ComingLemmas
pub mod ReadingLemmas
pub mod TreeLemmas
