pub mod Alike
pub mod Copying
pub mod Elementwise
pub mod Emptiness
pub mod Fronts
pub mod Joined
pub mod Joins
mod SpacesPushed
pub mod Widths
pub mod Yielding
