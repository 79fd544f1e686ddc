pub mod Endings
pub mod LinesText
pub mod Responses
pub mod Statuses
pub mod Written
