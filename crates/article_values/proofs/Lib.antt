mod BlockTurns
mod Fitting
mod LettingGo
mod Turns
pub mod VariantViews
pub mod Weights
