pub mod Errors
pub mod PageAnswers
pub mod PlainPages
pub mod RichPages
pub mod Settings
