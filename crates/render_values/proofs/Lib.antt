pub mod ArenaLemmas
pub mod CellLemmas
pub mod ClosingLemmas
pub mod EmptinessLemmas
pub mod RaisingLemmas
