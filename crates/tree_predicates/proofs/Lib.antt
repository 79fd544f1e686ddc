pub mod AttributeLemmas
pub mod BeginningLemmas
pub mod WordLemmas
