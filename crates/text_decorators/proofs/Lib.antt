pub mod Characters
pub mod FootnoteLemmas
pub mod Numbering
