pub mod AddedLines
pub mod ComingLemmas
pub mod FuelLemmas
