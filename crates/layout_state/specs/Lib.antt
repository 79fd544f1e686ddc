pub mod Begins
pub mod Items
pub mod LayoutState
pub mod Seen
