pub mod PartLaws
pub mod Parts
pub mod PlainText
pub mod SeenParts
