mod AcrossLemmas
mod EachLemmas
mod FitLemmas
mod ListLemmas
mod PartLemmas
mod SpanLemmas
mod StandLemmas
mod WidenLemmas
