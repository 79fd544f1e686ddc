pub mod Cascade
pub mod Hiding
pub mod Keys
pub mod Seen
pub mod Styles
