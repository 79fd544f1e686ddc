pub mod Flowing
pub mod Pass
pub mod Seen
pub mod TableFits
pub mod Walk
