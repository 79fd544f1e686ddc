pub mod FlowLemmas
pub mod LineLemmas
pub mod TogetherLemmas
pub mod WordLemmas
