pub mod FlowLemmas
pub mod GridLemmas
pub mod PassedLemmas
pub mod SegmentLemmas
pub mod TableLemmas
pub mod WalkLemmas
