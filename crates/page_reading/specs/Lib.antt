pub mod Faults
pub mod PageTrees
pub mod Readers
