pub mod Bare
pub mod Calls
pub mod Defaults
pub mod Outcomes
pub mod Renderers
pub mod Texts
