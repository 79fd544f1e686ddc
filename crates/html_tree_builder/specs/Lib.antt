pub mod Begun
pub mod Defaults
pub mod Fragments
pub mod Grown
pub mod Parsers
