pub mod CommandRules
pub mod CommandWords
pub mod FaultTexts
pub mod FoundWords
pub mod OpenedFiles
pub mod Requests
pub mod TableFiles
pub mod WordFaults
