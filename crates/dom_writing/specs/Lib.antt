pub mod Dumps
pub mod Marks
pub mod Steps
pub mod ToCome
pub mod Turns
