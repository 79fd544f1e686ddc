pub mod Blocks
pub mod LawWords
pub mod Lines
pub mod NormalBlocks
pub mod Retagged
