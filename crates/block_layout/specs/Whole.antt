-- Lines of another block that stand in a block as texts of it.
use Rattle.std.specs.Prelude.{◌≡◌, ℕ, false, List, [], ◌++◌, map}
use Rattle.text_pieces.specs.Sources.{is_filled}
use Rattle.text_borders.specs.Across.{CellLine, as_text}
use Rattle.text_borders.specs.Lines.{BlockLine, text, border}
use Rattle.block_layout.specs.Laid.{Laid, content_as_text, finished}
use Rattle.block_layout.specs.declared.measure.Measure.{Measure}

abbrev pub IsText : {S : Type 0} → BlockLine S → Type 0
IsText (text items) = Unit {0}
IsText (border b) = ⊥

-- no prefix, no marker that waits, and lines are not filled
pub record TakesAll {S : Type 0} (m : Measure) (first following : List ℕ) (b : Laid S) : Type 0 where
  pub unpadded : m.pads ≡ false
  pub at_first : is_filled first ≡ false
  pub trailing : is_filled following ≡ false
  pub unmarked : b.markers ≡ []

-- a line of another block, as text
abbrev pub settled : {S : Type 0} → Measure → S → CellLine S → CellLine S
settled other tag l =
    record { line = text (as_text tag (finished other l.line)); content = content_as_text l.line l.content }

abbrev pub with_texts : {S : Type 0} → Measure → S → List (CellLine S) → Laid S → Laid S
with_texts other tag lines b = record b { lines = b.lines ++ map (settled other tag) lines }
