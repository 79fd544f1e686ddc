mod ArticlesRendered
pub mod ArticlesWalked
mod BlockValues
pub mod BlocksWalked
mod InlineValues
pub mod InlinesWalked
pub mod Leasts
mod MarkStyles
pub mod PagesLaid
pub mod PartsWalked
pub mod Prefixes
pub mod SaidTexts
pub mod SameContents
pub mod SameLayouts
mod StartNumbers
mod TreesOfContents
