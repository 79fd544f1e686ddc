-- Runs of characters that are held at a place, which stays.
use Rattle.std.specs.Prelude.{ℕ, List, [], ◌∷◌, Option, Some, None}
use Rattle.html_lexemes.specs.declared.states.AttrValueKind.TheVariants.{Unquoted, SingleQuoted, DoubleQuoted}
use Rattle.token_states.specs.declared.place.LexemeState.{LexemeState}
use Rattle.token_states.specs.declared.place.LexemeState.TheVariants.{BogusComment, Comment, Doctype, Tag}
use Rattle.token_states.specs.declared.place.TagPlace.{TagPlace}
use Rattle.token_states.specs.declared.place.TagPlace.TheVariants.{AttributeName, AttributeValue, TagName}

-- At these characters a run stops: where the place would be another, or the lexeme over, and at LF and CR always. In a
-- name and in a value without quotes they are white space, `>`, and the signs that end it.
abbrev pub tag_stops : TagPlace → Option (List ℕ)
tag_stops TagName = Some (9 ∷ 10 ∷ 12 ∷ 13 ∷ 32 ∷ 47 ∷ 62 ∷ [])
tag_stops AttributeName = Some (9 ∷ 10 ∷ 12 ∷ 13 ∷ 32 ∷ 47 ∷ 61 ∷ 62 ∷ [])
tag_stops (AttributeValue Unquoted) = Some (9 ∷ 10 ∷ 12 ∷ 13 ∷ 32 ∷ 62 ∷ [])
tag_stops (AttributeValue SingleQuoted) = Some (10 ∷ 13 ∷ 39 ∷ [])
tag_stops (AttributeValue DoubleQuoted) = Some (10 ∷ 13 ∷ 34 ∷ [])
tag_stops place = None

-- none where each character is read by itself
abbrev pub held_stops : LexemeState → Option (List ℕ)
held_stops (Tag kind place) = tag_stops place
held_stops BogusComment = Some (10 ∷ 13 ∷ 62 ∷ [])
held_stops Comment = Some (10 ∷ 13 ∷ 62 ∷ [])
held_stops Doctype = Some (10 ∷ 13 ∷ 62 ∷ [])
held_stops place = None
