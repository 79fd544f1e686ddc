pub mod Seen
pub mod Tables
