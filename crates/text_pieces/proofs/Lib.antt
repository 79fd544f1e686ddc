pub mod CharacterLemmas
pub mod ElementLemmas
pub mod FrontLemmas
pub mod ItemColumns
pub mod PieceJoins
pub mod RetaggedItems
pub mod TextCuts
