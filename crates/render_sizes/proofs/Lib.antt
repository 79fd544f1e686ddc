pub mod AskedLemmas
pub mod ExtentLemmas
pub mod RowLemmas
pub mod SizeLemmas
pub mod SoundLemmas
