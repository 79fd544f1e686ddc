pub mod Contents
pub mod Emits
