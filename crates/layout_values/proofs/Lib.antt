pub mod FitLemmas
pub mod OpenLemmas
pub mod StepLemmas
pub mod TableOpenLemmas
pub mod ValueLemmas
