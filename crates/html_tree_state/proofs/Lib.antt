pub mod BlockWords
pub mod ResetLemmas
pub mod WalkPlaces
pub use Rattle.tree_model.proofs.OpenLemmas
pub use Rattle.tree_model.proofs.Stacks
