-- A source line without the white space at its end, piece by piece.
use Rattle.std.specs.Prelude.{◌≡◌, ◌≤◌, ◌||◌, [], ◌∷◌, ◌++◌, if◌then◌else◌, Bool, List, drop, false, flat_map, length}
use Rattle.std.specs.Prelude.{take, ℕ}
use Rattle.std.specs.String.Boundary.{IsSplitPoint}
use Rattle.text_pieces.specs.Sources.{Source, piece_sources, sources_of}
use Rattle.text_preserved.specs.Preserved.{kind_of, is_solid, trimmed}
use Rattle.text_pieces.specs.declared.piece.Piece.{Piece}

-- some character is shown
abbrev pub has_solid_text : ℕ → Bool → List ℕ → Bool
has_solid_text width wraps [] = false
has_solid_text width wraps (c ∷ cs) = is_solid (kind_of width wraps c) || has_solid_text width wraps cs

-- the characters up to the last that is shown
abbrev pub solid_text : ℕ → Bool → List ℕ → List ℕ
solid_text width wraps [] = []
solid_text width wraps (c ∷ cs) =
    if is_solid (kind_of width wraps c) || has_solid_text width wraps cs then c ∷ solid_text width wraps cs
    else solid_text width wraps cs

-- each piece is trimmed by itself
abbrev pub trimmed_each : {T S : Type 0} → (T → S) → ℕ → Bool → List (Piece T) → List (Source S)
trimmed_each seen width wraps pieces = flat_map (λ piece. trimmed width wraps (piece_sources seen piece)) pieces

-- Of a source line the first pieces stay whole, and of each other one the white space at its end goes.
pub record StayWhole {T S : Type 0} (seen : T → S) (width : ℕ) (wraps : Bool) (pieces : List (Piece T)) (n : ℕ)
    : Type 0 where
  pub within : n ≤ length pieces
  pub trims : trimmed width wraps (sources_of seen pieces)
      ≡ sources_of seen (take n pieces) ++ trimmed_each seen width wraps (drop n pieces)

-- the text begins with the front, which ends where a character does
pub record IsFrontOf (text front : List ℕ) : Type 0 where
  pub is : take (length front) text ≡ front
  pub edge : IsSplitPoint text (length front)
