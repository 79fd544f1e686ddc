mod AllGapLemmas
mod ApartLemmas
mod BetweenLemmas
mod CheckLemmas
mod EndLemmas
mod FirstLemmas
mod GapLemmas
mod GridLemmas
mod HoleLemmas
mod LawLemmas
mod MergeLemmas
pub mod NumberLemmas
mod OneGridLemmas
mod OnePlaceLemmas
pub mod OrderedLemmas
mod PartLemmas
pub mod PlacingLemmas
mod RankLemmas
mod RowGapLemmas
mod RowLemmas
mod SizeLemmas
mod StateLemmas
mod TheGridLemmas
mod WalkLemmas
mod WindowLemmas
mod WithoutLemmas
