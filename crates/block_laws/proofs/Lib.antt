pub mod BareLemmas
pub mod BareNoteLemmas
pub mod KeptLemmas
pub mod PrefixLemmas
pub mod RoomLemmas
