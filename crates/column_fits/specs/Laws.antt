-- Words of the laws of fitted columns.
use Rattle.std.specs.Prelude.{ℕ, ◌<◌, ◌≤◌, [], ◌∷◌, List, All}
use Rattle.column_fits.specs.Fits.{covered, taken}
use Rattle.column_fits.specs.declared.cell.CellWidths.{CellWidths}

-- the columns of each cell have its narrowest width in all, and its widest
abbrev pub HaveNarrowest : List CellWidths → (widths : List ℕ) → Type 0
HaveNarrowest cells widths = All (λ c. c.first < c.last → c.narrowest ≤ taken (covered c widths)) cells

abbrev pub HaveWidest : List CellWidths → (widths : List ℕ) → Type 0
HaveWidest cells widths = All (λ c. c.first < c.last → c.widest ≤ taken (covered c widths)) cells

-- each width is its column's least or more
abbrev pub AreAtLeast : (leasts widths : List ℕ) → Type 0
AreAtLeast [] [] = Unit {0}
AreAtLeast [] (w ∷ widths) = ⊥
AreAtLeast (l ∷ leasts) [] = ⊥
AreAtLeast (l ∷ leasts) (w ∷ widths) = (l ≤ w) × AreAtLeast leasts widths
