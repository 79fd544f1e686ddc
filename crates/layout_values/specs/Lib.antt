pub mod Lay
pub mod Seen
pub mod Continuation
pub mod Sizing
