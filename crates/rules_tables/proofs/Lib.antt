pub mod FosterLemmas
pub mod PendingLemmas
