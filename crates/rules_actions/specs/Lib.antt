pub mod Follows
pub mod Forms
pub mod Outcomes
pub mod Parsed
