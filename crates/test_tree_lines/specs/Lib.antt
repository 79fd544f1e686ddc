pub mod ToCome
pub mod TreeLines
