mod BareLemmas
mod ColouredLemmas
pub mod LineLemmas
pub mod NumberLemmas
pub mod OptionLemmas
mod PageLemmas
pub mod SeenRules
mod SizingLemmas
pub mod TextWidths
