pub mod ArticleValues
pub mod BlockCalls
pub mod Calls
pub mod Exchanges
pub mod Layouts
pub mod Paragraphs
pub mod Showing
