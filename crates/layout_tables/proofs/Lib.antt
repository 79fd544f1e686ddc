pub mod TableSlotLemmas
pub mod TableStepLemmas
pub mod TableWidthLemmas
