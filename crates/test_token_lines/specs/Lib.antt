pub mod Heard
pub mod TokenLines
