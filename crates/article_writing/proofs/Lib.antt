pub mod Accepted
pub mod BlocksRead
pub mod Documents
pub mod InnerSizes
pub mod Naming
pub mod NumbersFitting
pub mod Emitting
pub mod Texts
