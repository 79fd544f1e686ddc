pub mod ArticleValues
pub mod ArticlesLaid
pub mod Measures
pub mod Pages
pub mod PlainArticles
pub mod PlainContents
pub mod PlainLayouts
