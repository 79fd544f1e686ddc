pub mod BegunLemmas
pub mod FitLemmas
pub mod FragmentLemmas
pub mod ReadLemmas
