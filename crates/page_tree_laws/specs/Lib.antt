pub mod KeptText
pub mod PageTexts
pub mod Skeleton
