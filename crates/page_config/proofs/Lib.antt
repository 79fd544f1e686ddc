pub mod AnswerLemmas
pub mod OneAnswer
pub mod PlainLemmas
pub mod ReadingLemmas
pub mod SeenSettings
pub mod SomeAnswer
pub mod WidthLemmas
