pub mod Counts
pub mod ElementSets
pub mod Groups
pub mod RowWords
pub mod Sets
pub mod TagSets
pub mod Wanted
