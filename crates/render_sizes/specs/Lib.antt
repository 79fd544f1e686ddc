pub mod Asked
pub mod Extents
pub mod RowCells
pub mod Sound
pub mod TextSizes
