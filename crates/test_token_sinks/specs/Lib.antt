pub mod KeptTokens
pub mod KeptTokensLaws
pub mod PreformattedText
pub mod PreformattedTextLaws
