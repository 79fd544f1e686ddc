pub mod AnswerLemmas
pub mod EndingLemmas
pub mod LinesTextLemmas
pub mod OneWay
pub mod ResponseLemmas
pub mod SettingLemmas
pub mod WritingLemmas
pub mod WrittenLemmas
