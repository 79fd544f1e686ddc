-- A source line that is one line, as it stands.
use Rattle.std.specs.Prelude.{◌≡◌, ◌⊎◌, ◌≤◌, [], ◌∷◌, All, Bool, List, None, Option, Some, chars, false, string_bytes}
use Rattle.std.specs.Prelude.{take, true, ℕ}
use Rattle.std.specs.String.Boundary.{IsSplitPoint}
use Rattle.text_lines.specs.Columns.{text_columns}
use Rattle.text_lines.specs.Tagged.{Item, marker}
use Rattle.text_pieces.specs.Sources.{Source, is_filled}
use Rattle.text_pieces.specs.declared.piece.Piece.{Piece}
use Rattle.text_pieces.specs.declared.piece.Piece.TheVariants.{Text, Fragment}
use Rattle.text_preserved.specs.Fronts.{BeginsSolid}
use Rattle.text_preserved.specs.Preserved.{preserved_lines, preserved_waiting, is_too_wide}
use Rattle.text_preserved.specs.Trimming.{solid_text}

-- the source line has this one line, no marker waits after it, and none of its characters is too wide
pub record IsOnlyLine {S : Type 0} (width : ℕ) (wraps : Bool) (source : List (Source S)) (line : List (Item S))
    : Type 0 where
  pub lines : preserved_lines width wraps source ≡ line ∷ []
  pub waiting : preserved_waiting width wraps source ≡ []
  pub fits : is_too_wide width wraps source ≡ false

-- printable ASCII: U+0020, or a visible character
abbrev pub IsPrintable : ℕ → Type 0
IsPrintable c = (c ≡ 0x20) ⊎ ((0x21 ≤ c) × (c ≤ 0x7E))

-- printable ASCII without the spaces at its end, where something is left
pub record IsPlainFront (width : ℕ) (wraps : Bool) (text front : List ℕ) : Type 0 where
  pub wide : 2 ≤ width
  pub printable : All IsPrintable text
  pub is : front ≡ solid_text width wraps text
  pub filled : is_filled front ≡ true

-- so many bytes of the text are its plain front, which has so many columns, and fits on a line
pub record IsPlainCut (width : ℕ) (wraps : Bool) (text : List ℕ) (bytes columns : ℕ) : Type 0 where
  pub front : IsPlainFront width wraps (chars text) (chars (take bytes text))
  pub edge : IsSplitPoint text bytes
  pub counted : columns ≡ text_columns (chars (take bytes text))
  pub fits : columns ≤ width

-- the pieces are one text, or a marker and a text, of which so many bytes make the line
abbrev pub MakesLine : {T : Type 0} → ℕ → Bool → List (Piece T) → ℕ → ℕ → Type 0
MakesLine width wraps [] bytes columns = ⊥
MakesLine width wraps (Text piece ∷ []) bytes columns =
    IsPlainCut width wraps (string_bytes piece.text) bytes columns
MakesLine width wraps (Text piece ∷ other ∷ rest) bytes columns = ⊥
MakesLine width wraps (Fragment name ∷ []) bytes columns = ⊥
MakesLine width wraps (Fragment name ∷ Text piece ∷ []) bytes columns =
    IsPlainCut width wraps (string_bytes piece.text) bytes columns
    × BeginsSolid width wraps (chars (take bytes (string_bytes piece.text)))
MakesLine width wraps (Fragment name ∷ Text piece ∷ other ∷ rest) bytes columns = ⊥
MakesLine width wraps (Fragment name ∷ Fragment other ∷ rest) bytes columns = ⊥

-- the marker before a line's text
abbrev pub lead_items : {T S : Type 0} → Option (Piece T) → List (Item S)
lead_items None = []
lead_items (Some (Text piece)) = []
lead_items (Some (Fragment name)) = marker (chars (string_bytes name)) ∷ []
