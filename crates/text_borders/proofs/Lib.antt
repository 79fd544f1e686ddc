pub mod AcrossLemmas
pub mod BorderLemmas
pub mod FillLemmas
pub mod RetagLemmas
pub mod RowRetagged
pub mod SeatLemmas
pub mod SegmentLemmas
