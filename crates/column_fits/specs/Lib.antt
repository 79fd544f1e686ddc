pub mod Across
pub mod Fits
pub mod Laws
