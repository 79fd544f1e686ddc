mod NormalLine
mod PreservedLine
mod SourceColumns
mod UnitLemmas
mod WhiteColumns
mod Widest
