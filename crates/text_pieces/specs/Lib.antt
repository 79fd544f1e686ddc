pub mod Cuts
pub mod Faults
pub mod Items
pub mod Joins
pub mod Modes
pub mod Retagged
pub mod Sources
