pub mod HangingLemmas
pub mod LaidRetagged
pub mod OptionLemmas
pub mod OverflowLemmas
pub mod RowWidths
pub mod WidthLemmas
