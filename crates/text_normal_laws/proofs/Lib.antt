pub mod LayoutFewest
pub mod LetterLemmas
pub mod MarkedKept
pub mod MarkedShown
pub mod MarkedWidth
pub mod MarkersAside
pub mod NormalRetagged
pub mod NotesAside
