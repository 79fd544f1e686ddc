pub mod CountLemmas
pub mod JoinedLemmas
pub mod RowLemmas
pub mod WholeLemmas
