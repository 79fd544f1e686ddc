pub mod EncodingLemmas
pub mod ReadyLemmas
