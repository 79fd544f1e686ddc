mod BodyLemmas
pub mod CharacterLemmas
pub mod ColumnLemmas
pub mod DropLemmas
mod FrontLemmas
pub mod LayingCharacters
pub mod LayingKept
pub mod LayingMarkers
pub mod LayingPlain
pub mod LayingRetagged
pub mod LayingWidth
pub mod PassLaw
mod PlainLemmas
pub mod ReadingLemmas
pub mod RowLemmas
pub mod TrimLemmas
mod WordLemmas
mod WordsRead
