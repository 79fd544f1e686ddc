pub mod Computed
pub mod Crowding
pub mod Said
