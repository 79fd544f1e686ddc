pub mod Lines
pub mod Seen
pub mod Settings
pub mod Walks
