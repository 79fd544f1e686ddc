pub mod GoesOnLemmas
