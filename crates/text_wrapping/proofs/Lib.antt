pub mod BlockLaws
pub mod BlockLemmas
pub mod BlockRetagged
pub mod BlockWidths
pub mod CopyLemmas
pub mod NormalBlocks
pub mod NormalPadding
pub mod NothingLemmas
pub mod ShowingLemmas
mod WholeLines
