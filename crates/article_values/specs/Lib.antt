pub mod Articles
pub mod Faults
pub mod Outcomes
pub mod Sizes
pub mod Views
