pub mod Laid
pub mod LaidRows
pub mod Retagged
pub mod Seen
pub mod Whole
