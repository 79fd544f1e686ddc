pub mod BareLaws
pub mod WalkLaws
