pub mod Asked
pub mod Contents
pub mod Escaped
pub mod Parts
pub mod Planted
pub mod Rebuilt
pub mod Rows
