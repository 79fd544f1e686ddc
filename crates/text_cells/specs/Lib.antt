pub mod Cells
pub mod Ends
pub mod OpenCells
pub mod Texts
