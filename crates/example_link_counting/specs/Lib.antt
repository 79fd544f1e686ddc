pub mod Counted
pub mod Linked
