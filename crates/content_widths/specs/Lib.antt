pub mod Flows
pub mod Reading
pub mod Texts
