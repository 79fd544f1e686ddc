pub mod Cuts
pub mod Footnotes
pub mod Links
pub mod Printable
pub mod Seen
pub mod Targets
