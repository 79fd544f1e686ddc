mod BodyModes
mod FirstTags
mod NamedCharacters
mod OneList
mod OwnLines
mod PagesRead
mod PagesTrees
pub mod QuietRules
mod RenderedLines
mod StatesLaid
mod TextsRead
pub mod TreesOfPages
mod ValuesLaid
mod ValuesOfPages
