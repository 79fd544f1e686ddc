pub mod Across
pub mod AcrossLaws
pub mod BorderLaws
pub mod Borders
pub mod Lines
pub mod Retagged
pub mod RowWords
pub mod Segments
