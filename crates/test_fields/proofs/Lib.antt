pub mod AddedLemmas
pub mod TurnLemmas
