pub mod ImageLemmas
pub mod StackLemmas
pub mod StrikingLemmas
pub mod TextLemmas
