pub mod Documents
pub mod Emissions
pub mod Trees
pub mod Written
