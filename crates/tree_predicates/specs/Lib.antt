pub mod Attributes
pub mod Foreign
pub mod Modes
pub mod Quirks
pub mod RowWords
