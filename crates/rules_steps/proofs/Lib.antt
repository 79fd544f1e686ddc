pub mod CharacterLemmas
pub mod RuleLemmas
pub mod RunLemmas
pub mod SettleLemmas
pub mod TextLemmas
