-- Texts at the end of pieces.
use Rattle.std.specs.Prelude.{◌≡◌, ℕ, ◌-◌, List, ◌++◌, length, slice_get, IsSomeAnd, string_bytes}
use Rattle.text_pieces.specs.declared.piece.Piece.{Piece}
use Rattle.text_pieces.specs.declared.piece.Piece.TheVariants.{Text, Fragment}
use Rattle.text_pieces.specs.Sources.{wrap_seen}

-- a text with the tags
abbrev pub HasTags : {T S : Type 0} → (T → S) → S → S → Piece T → Type 0
HasTags seen main further (Text piece) = (seen piece.main_tag ≡ main) × (wrap_seen seen piece ≡ further)
HasTags seen main further (Fragment name) = ⊥

-- the last piece is a text with the tags
abbrev pub EndsWithTags : {T S : Type 0} → (T → S) → S → S → List (Piece T) → Type 0
EndsWithTags seen main further pieces = IsSomeAnd (slice_get pieces (length pieces - 1)) (HasTags seen main further)

-- the piece with the text added at its end
abbrev pub Extends : {T : Type 0} → Piece T → Piece T → List ℕ → Type 0
Extends (Text old) (Text new) text = (string_bytes new.text ≡ string_bytes old.text ++ text)
    × ((new.main_tag ≡ old.main_tag) × (new.wrap_tag ≡ old.wrap_tag))
Extends (Text old) (Fragment new) text = ⊥
Extends (Fragment old) (Text new) text = ⊥
Extends (Fragment old) (Fragment new) text = new ≡ old
