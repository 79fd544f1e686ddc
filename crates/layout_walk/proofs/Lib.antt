pub mod EnterLemmas
pub mod FitsLemmas
pub mod SegmentLemmas
pub mod WalkLemmas
