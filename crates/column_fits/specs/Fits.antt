-- What the columns of a table ask for by what stands in them (after CSS 2.2, 17.5.2.2: the minimum and the maximum
-- width of columns, here so that cells over several columns widen these by their maximum widths).
use Rattle.std.specs.Prelude.{ℕ, ◌+◌, ◌-◌, ◌*◌, ◌/◌, ◌==◌, ◌^◌, ◌≤◌, [], ◌∷◌, ◌++◌, All, Bool, List, drop, filter}
use Rattle.std.specs.Prelude.{flat_map, fold, length, map, max, min, sum, sum_by, take}
use Rattle.std.specs.List.{range_with_len}
use Rattle.table_grid.specs.declared.columns.Column.{Column}
use Rattle.column_fits.specs.declared.fit.ColumnFit.{ColumnFit}
use Rattle.column_fits.specs.declared.cell.CellWidths.{CellWidths}

abbrev pub low_of : ColumnFit → ℕ
low_of f = f.low

abbrev pub high_of : ColumnFit → ℕ
high_of f = f.high

abbrev pub fit_of : (low high : ℕ) → ColumnFit
fit_of low high = record { low = low; high = high }

-- how many columns a cell covers
abbrev pub span_of : CellWidths → ℕ
span_of c = c.last - c.first

-- these of all columns
abbrev pub covered : {A : Type 0} → CellWidths → List A → List A
covered c xs = take (span_of c) (drop c.first xs)

-- what columns side by side take, with a separator between neighbours
abbrev pub taken : List ℕ → ℕ
taken widths = sum widths + (length widths - 1)

-- Columns that lack so much in all get it by their weights, rounded down, and the last what is left.
unfoldable pub parts_of : (lack total left : ℕ) → List ℕ → List ℕ
parts_of lack total left [] = []
parts_of lack total left (w ∷ []) = left ∷ []
parts_of lack total left (w ∷ v ∷ ws) = lack * w / total ∷ parts_of lack total (left - lack * w / total) (v ∷ ws)

abbrev pub parts : (lack : ℕ) → (weights : List ℕ) → List ℕ
parts lack weights = parts_of lack (sum weights) lack weights

-- columns that have so much more
unfoldable pub raised : List ColumnFit → (lows highs : List ℕ) → List ColumnFit
raised [] lows highs = []
raised (f ∷ fs) [] highs = []
raised (f ∷ fs) (l ∷ lows) [] = []
raised (f ∷ fs) (l ∷ lows) (h ∷ highs) = fit_of (f.low + l) (f.high + h) ∷ raised fs lows highs

-- A cell widens its columns to its own widths, by what each takes at the most.
abbrev pub widened_to : CellWidths → List ColumnFit → List ColumnFit
widened_to c fs = raised fs (parts (c.narrowest - taken (map low_of fs)) (map high_of fs))
    (parts (c.widest - taken (map high_of fs)) (map high_of fs))

abbrev pub widened_by : List ColumnFit → CellWidths → List ColumnFit
widened_by fits c = take c.first fits ++ widened_to c (covered c fits) ++ drop c.last fits

-- cells over fewer columns come first, and over as many in their order; those without a column don't
abbrev pub is_over : ℕ → CellWidths → Bool
is_over count c = span_of c == count

unfoldable pub in_order : (count : ℕ) → List CellWidths → List CellWidths
in_order count cells = flat_map (λ n. filter (is_over n) cells) (range_with_len 1 count)

-- at first a column has its least, and one at least
abbrev pub begun : Column → ColumnFit
begun c = fit_of (max c.least 1) 1

-- at last it takes no less at the most than at the least
abbrev pub settled : ColumnFit → ColumnFit
settled f = fit_of f.low (max f.low f.high)

unfoldable pub fits_of : List Column → List CellWidths → List ColumnFit
fits_of columns cells = map settled (fold widened_by (map begun columns) (in_order (length columns) cells))

-- the columns that all lows take, and all highs, separators included
abbrev pub low_width : List ColumnFit → ℕ
low_width fits = sum_by low_of fits + (length fits - 1)

abbrev pub high_width : List ColumnFit → ℕ
high_width fits = sum_by high_of fits + (length fits - 1)

-- a sum stops at the greatest number of 64 bits
abbrev pub capped : ℕ → ℕ
capped n = min n (2 ^ 64 - 1)

-- what a table asks for whose columns are fitted
abbrev pub asked_by : List ColumnFit → ColumnFit
asked_by fits = fit_of (capped (low_width fits)) (capped (high_width fits))

-- cells that stand within the columns
abbrev pub AreWithin : (count : ℕ) → List CellWidths → Type 0
AreWithin count cells = All (λ c. (c.first ≤ c.last) × (c.last ≤ count)) cells
