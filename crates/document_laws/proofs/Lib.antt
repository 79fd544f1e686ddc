mod Adopting
mod Asking
mod AtOnce
mod BasicTable
mod BlockNames
mod BlockSteps
mod Blocks
mod Documents
mod Growing
mod InlineNames
mod Inlines
mod NamedEscapes
mod NamedReferences
mod Pages
mod Planting
pub mod ReadTexts
pub mod ReadValues
mod Said
mod Standing
mod Sublists
mod WholeStates
