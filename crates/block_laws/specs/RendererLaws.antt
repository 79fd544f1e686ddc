-- Words of the laws on renderers.
use Rattle.std.specs.Prelude.{◌≡◌, ℕ, ◌+◌, ◌≤◌, All, Bool, false, List, [], ◌∷◌, Option, Some, IfSome}
use Rattle.std.specs.Option.{option_and_then}
use Rattle.text_lines.specs.Columns.{text_columns}
use Rattle.text_borders.specs.Across.{Cell, width_across}
use Rattle.block_layout.specs.Laid.{Laid, flush}
use Rattle.block_layout.specs.LaidRows.{last_border}
use Rattle.block_layout_laws.specs.LayoutLaws.{IsWithin, AllowsOverflow}
use Rattle.block_trait.specs.Renderers.{Marking, Sub, measure_of, cells_of_subs}
use Rattle.block_trait.specs.Calls.{Call, adds_border_of, adds_block, adds_cells, adds_rows_below, step}

-- no character may overflow, and what is laid is within the width
abbrev pub IsKeptWithin : {H A : Type 0} → Sub H A → Type 0
IsKeptWithin s = (s.options.allow_width_overflow ≡ false) × IsWithin (measure_of s) s.laid

-- the new renderer is kept within the width of the old one, under the same options
abbrev pub StaysWithin : {H A : Type 0} → Sub H A → Sub H A → Type 0
StaysWithin old new = IsKeptWithin new × ((new.width ≡ old.width) × (new.options ≡ old.options))

-- The other renderer fits after the prefix.
abbrev pub FitsAfter : {H A : Type 0} → List ℕ → Sub H A → Sub H A → Type 0
FitsAfter prefix other s = text_columns prefix + other.width ≤ s.width

-- the row of these cells, with those that go on from the row above it, is within the width
abbrev pub RowFits : {H A : Type 0} → List (Sub H A × ℕ) → Bool → Sub H A → Type 0
RowFits {H} {A} cells collapse s = (flushed : Laid (List A)) (row : List (Cell (List A)))
    → flush (measure_of s) s.annotations s.laid ≡ Some flushed → cells_of_subs cells ≡ Some row
    → width_across collapse s.annotations (last_border flushed.lines) row flushed.hanging ≤ s.width

-- What a call adds is kept within its own width, and there is room for it.
abbrev pub CallFits : {H A : Type 0} → Call (Sub H A) → Sub H A → Type 0
CallFits (adds_border_of width) s = width ≤ s.width
CallFits (adds_block other first following) s =
    IsKeptWithin other × (FitsAfter first other s × FitsAfter following other s)
CallFits (adds_cells cells collapse) s = All (λ c. IsKeptWithin c.0) cells × RowFits cells collapse s
CallFits (adds_rows_below cells) s = All (λ c. IsKeptWithin c × (c.width ≤ s.width)) cells
CallFits _ s = Unit

-- calls in turn
abbrev pub after : {H A : Type 0} → Marking H A → List (Call (Sub H A)) → Sub H A → Option (Sub H A)
after m [] s = Some s
after m (c ∷ calls) s = option_and_then (after m calls) (step m c s)

-- Each call fits where it is made.
abbrev pub AllFit : {H A : Type 0} → Marking H A → List (Call (Sub H A)) → Sub H A → Type 0
AllFit m [] s = Unit
AllFit m (c ∷ calls) s = CallFits c s × IfSome (step m c s) (AllFit m calls)

-- a character that is wider than the lines may stand alone, in the text that runs too
abbrev pub HasRoom : {H A : Type 0} → Sub H A → Type 0
HasRoom s = AllowsOverflow (measure_of s) s.laid

-- So it may in each renderer that the call takes.
abbrev pub CallHasRoom : {H A : Type 0} → Call (Sub H A) → Type 0
CallHasRoom (adds_block other first following) = HasRoom other
CallHasRoom (adds_cells cells collapse) = All (λ c. HasRoom c.0) cells
CallHasRoom (adds_rows_below cells) = All HasRoom cells
CallHasRoom _ = Unit
