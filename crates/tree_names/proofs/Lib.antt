pub mod CountLemmas
pub mod GroupLemmas
pub mod SetLemmas
