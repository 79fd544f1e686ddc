pub mod Falls
pub mod Flags
pub mod Hearing
pub mod Lawful
pub mod TextClasses
pub mod TextRuns
