-- What columns ask for, and what cells then have.
use Rattle.std.proofs.Common.{◌≡◌, ◌+◌, ◌-◌, ◌<◌, ◌≤◌, ◌∙◌, [], ◌∷◌, All, List, ap, arith, filter, fold, length, map}
use Rattle.std.proofs.Common.{refl}
use Rattle.std.proofs.Common.{subst, sym, ℕ}
use Rattle.std.specs.List.{AllByRecursion}
use Rattle.std.proofs.lemmas.List.{length-map}
use Rattle.std.proofs.lemmas.List.Elements.{All-from_recursion, All-map, All-weaker, recursion_from_All}
use Rattle.std.proofs.lemmas.List.Sums.{fold-append}
use Rattle.table_grid.specs.declared.columns.Column.{Column}
use Rattle.column_fits.specs.Across.{AreFits}
use Rattle.column_fits.specs.Fits.{AreWithin, begun, covered, fits_of, high_of, in_order, is_over, low_of}
use Rattle.column_fits.specs.Fits.{settled, span_of, taken, widened_by}
use Rattle.column_fits.specs.Laws.{AreAtLeast, HaveNarrowest, HaveWidest}
use Rattle.column_fits.specs.declared.cell.CellWidths.{CellWidths}
use Rattle.column_fits.specs.declared.fit.ColumnFit.{ColumnFit}
use Rattle.column_fits.proofs.EachLemmas.{each_both, each_weaker}
use Rattle.column_fits.proofs.ListLemmas.{covered_more}
use Rattle.column_fits.proofs.SpanLemmas.{by_spans, by_spans_each, each_by_spans, order_begins}
use Rattle.column_fits.proofs.StandLemmas.{HasColumns, IsStanding, standing}

-- ---- before and after the cells

pub begun_some : (columns : List Column) → All (λ f. 1 ≤ f.high) (map begun columns)
begun_some columns = All-map (λ (f : ColumnFit). 1 ≤ f.high) begun columns (λ k d lt. omega arith)

-- cells over several columns have columns of the table
pub spanning_within : (count many : ℕ) (cells : List CellWidths) → AreWithin count cells →
    AllByRecursion (HasColumns count) (by_spans 2 many cells)
spanning_within count many cells within =
    each_weaker (λ c. (2 ≤ span_of c) × ((c.first ≤ c.last) × (c.last ≤ count))) (HasColumns count)
    (λ c p. (let le = p.0 in omega arith, p.1.1)) (by_spans 2 many cells)
    (each_by_spans (λ c. (c.first ≤ c.last) × (c.last ≤ count)) 2 many cells
    (recursion_from_All (λ c. (c.first ≤ c.last) × (c.last ≤ count)) cells within))

pub order_within : (count : ℕ) (cells : List CellWidths) → AreWithin count cells →
    AllByRecursion (HasColumns count) (in_order count cells)
unfolding in_order
order_within count cells within =
    each_weaker (λ c. (1 ≤ span_of c) × ((c.first ≤ c.last) × (c.last ≤ count))) (HasColumns count)
    (λ c p. (let le = p.0 in omega arith, p.1.1)) (by_spans 1 count cells)
    (each_by_spans (λ c. (c.first ≤ c.last) × (c.last ≤ count)) 1 count cells
    (recursion_from_All (λ c. (c.first ≤ c.last) × (c.last ≤ count)) cells within))

pub spans_within : (count : ℕ) (cells : List CellWidths) → AreWithin count cells → All (λ c. span_of c ≤ count) cells
spans_within count cells within =
    All-weaker (λ c. (c.first ≤ c.last) × (c.last ≤ count)) (λ c. span_of c ≤ count)
    (λ c p. let le = p.1 in omega arith) cells within

pub spanning_some : (count many : ℕ) (cells : List CellWidths) → AreWithin count cells →
    All (λ c. c.first < c.last) (by_spans 2 many cells)
spanning_some count many cells within =
    All-from_recursion (λ (c : CellWidths). c.first < c.last) (by_spans 2 many cells)
    (each_weaker (HasColumns count) (λ c. c.first < c.last) (λ c p. p.0) (by_spans 2 many cells)
    (spanning_within count many cells within))

pub spanning_last : (count many : ℕ) (cells : List CellWidths) → AreWithin count cells →
    All (λ c. c.last ≤ count) (by_spans 2 many cells)
spanning_last count many cells within =
    All-from_recursion (λ (c : CellWidths). c.last ≤ count) (by_spans 2 many cells)
    (each_weaker (HasColumns count) (λ c. c.last ≤ count) (λ c p. p.1) (by_spans 2 many cells)
    (spanning_within count many cells within))

-- ---- what the code does is this

pub fits_is : (columns : List Column) (cells : List CellWidths) (singles turned : List ColumnFit) →
    AreWithin (length columns) cells → singles ≡ fold widened_by (map begun columns) (filter (is_over 1) cells) →
    turned ≡ fold widened_by singles (by_spans 2 (length columns - 1) cells) →
    map settled turned ≡ fits_of columns cells
unfolding fits_of
fits_is columns cells singles turned within e f =
    ap (map settled) (f ∙ ap (λ (fs : List ColumnFit). fold widened_by fs (by_spans 2 (length columns - 1) cells)) e
    ∙ sym (fold-append widened_by (map begun columns) (filter (is_over 1) cells)
    (by_spans 2 (length columns - 1) cells))
    ∙ ap (fold widened_by (map begun columns)) (sym (order_begins (length columns) cells within)))

-- ---- settled

lows_settled : (fs : List ColumnFit) → map low_of (map settled fs) ≡ map low_of fs
lows_settled [] = refl
lows_settled (f ∷ fs) = ap (λ (ns : List ℕ). f.low ∷ ns) (lows_settled fs)

highs_settled : (fs : List ColumnFit) → AreAtLeast (map high_of fs) (map high_of (map settled fs))
highs_settled [] = tt
highs_settled (f ∷ fs) = (omega arith, highs_settled fs)

fits_settled : (columns : List Column) (fs : List ColumnFit) →
    AreAtLeast (map low_of (map begun columns)) (map low_of fs) → AreFits columns (map settled fs)
fits_settled [] [] h = tt
fits_settled [] (f ∷ fs) h = absurd h
fits_settled (c ∷ columns) [] h = absurd h
fits_settled (c ∷ columns) (f ∷ fs) h =
    let le = h.0 in
    (record { least = omega arith; some = omega arith; within = omega arith }, fits_settled columns fs h.1)

-- ---- the laws

standing_here : (columns : List Column) (cells : List CellWidths) → AreWithin (length columns) cells →
    IsStanding (map begun columns) (fold widened_by (map begun columns) (in_order (length columns) cells))
    (in_order (length columns) cells)
standing_here columns cells within =
    standing (map begun columns) (in_order (length columns) cells) (begun_some columns)
    (subst (λ (n : ℕ). AllByRecursion (HasColumns n) (in_order (length columns) cells))
    (sym (length-map columns begun)) (order_within (length columns) cells within))

pub have_fits : (columns : List Column) (cells : List CellWidths) → AreWithin (length columns) cells →
    AreFits columns (fits_of columns cells)
unfolding fits_of
have_fits columns cells within =
    fits_settled columns (fold widened_by (map begun columns) (in_order (length columns) cells))
    (standing_here columns cells within).lows

-- what holds of each cell in order holds of each that has a column
each_cell : (P : CellWidths → Type 0) (count : ℕ) (cells : List CellWidths) → AreWithin count cells →
    AllByRecursion P (in_order count cells) → All (λ c. c.first < c.last → P c) cells
unfolding in_order
each_cell P count cells within h =
    All-from_recursion (λ (c : CellWidths). c.first < c.last → P c) cells
    (each_both (λ c. (c.first ≤ c.last) × (c.last ≤ count)) (λ c. 1 ≤ span_of c → span_of c < 1 + count → P c)
    (λ c. c.first < c.last → P c)
    (λ c w p lt. let le = w.1 in p (omega arith) (omega arith)) cells
    (recursion_from_All (λ c. (c.first ≤ c.last) × (c.last ≤ count)) cells within)
    (by_spans_each P 1 count cells h))

pub have_narrowest : (columns : List Column) (cells : List CellWidths) (widths : List ℕ) →
    AreWithin (length columns) cells → AreAtLeast (map low_of (fits_of columns cells)) widths →
    HaveNarrowest cells widths
unfolding fits_of
have_narrowest columns cells widths within h =
    each_cell (λ c. c.narrowest ≤ taken (covered c widths)) (length columns) cells within
    (each_weaker
    (λ c. c.narrowest
    ≤ taken (covered c (map low_of (fold widened_by (map begun columns) (in_order (length columns) cells)))))
    (λ c. c.narrowest ≤ taken (covered c widths))
    (λ c le.
    let more = covered_more c
    (map low_of (fold widened_by (map begun columns) (in_order (length columns) cells))) widths
    (subst (λ (ns : List ℕ). AreAtLeast ns widths)
    (lows_settled (fold widened_by (map begun columns) (in_order (length columns) cells))) h) in omega arith)
    (in_order (length columns) cells) (standing_here columns cells within).narrowest)

pub have_widest : (columns : List Column) (cells : List CellWidths) → AreWithin (length columns) cells →
    HaveWidest cells (map high_of (fits_of columns cells))
unfolding fits_of
have_widest columns cells within =
    each_cell (λ c. c.widest ≤ taken (covered c (map high_of (fits_of columns cells)))) (length columns) cells within
    (each_weaker
    (λ c. c.widest
    ≤ taken (covered c (map high_of (fold widened_by (map begun columns) (in_order (length columns) cells)))))
    (λ c. c.widest ≤ taken (covered c (map high_of (fits_of columns cells))))
    (λ c le.
    let more = covered_more c
    (map high_of (fold widened_by (map begun columns) (in_order (length columns) cells)))
    (map high_of (fits_of columns cells))
    (highs_settled (fold widened_by (map begun columns) (in_order (length columns) cells))) in omega arith)
    (in_order (length columns) cells) (standing_here columns cells within).widest)
