pub mod ComingLemmas
pub mod FuelLemmas
pub mod LineLemmas
pub mod NodeLemmas
pub mod ShownLemmas
pub mod StepLemmas
pub mod TurnLemmas
