pub mod Columns
pub mod Copies
pub mod Elements
pub mod Equality
pub mod Iterating
pub mod Tagged
