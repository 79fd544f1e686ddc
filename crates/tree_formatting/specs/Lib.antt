pub mod Alike
pub mod Counted
pub mod Entries
pub mod Found
pub mod Prints
pub mod Pushing
pub mod RowWords
pub mod Steps
