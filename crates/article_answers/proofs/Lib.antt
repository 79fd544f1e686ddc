mod Answers
mod FilledTexts
mod PlainRules
mod EmittedLines
