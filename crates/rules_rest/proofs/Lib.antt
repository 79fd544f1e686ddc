pub mod FramesetLemmas
