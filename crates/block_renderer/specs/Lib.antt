pub mod Footnotes
pub mod NewParts
pub mod Seen
