pub mod AddedRules
pub mod FaultKinds
mod FileLemmas
pub mod FoundRows
pub mod ItemRuns
pub mod ItemUses
pub mod LineItems
pub mod LineWalks
pub mod NameUses
pub mod NumberValues
pub mod OneAsked
pub mod OptionNames
pub mod RequestFields
pub mod RowLemmas
pub mod WordOutcomes
pub mod WordSorts
pub mod WordTurns
pub mod WordVerdicts
