-- The gaps of a row, taken one after another.
use Rattle.std.proofs.Common.{◌≡◌, ◌+◌, ◌<◌, ◌≤◌, ◌==◌, [], ◌∷◌, ◌++◌, ◌∙◌, List, ap, arith, get_or, length, nat_lt}
use Rattle.std.proofs.Common.{true, ℕ}
use Rattle.std.specs.List.Sorted.{IsNonDecreasingBy}
use Rattle.std.proofs.lemmas.Bool.{and_from, and_parts, and_right, eqb-true, eq-eqb, le-ltb, lt-ltb}
use Rattle.std.proofs.lemmas.List.{get_or_default}
use Rattle.table_grid.specs.declared.grid.GridGap.{GridGap}
use Rattle.table_widths.specs.declared.slot.Slot.{Slot}
use Rattle.table_widths.specs.RowParts.{HasRowsFrom, gaps_in}
use Rattle.table_widths.specs.Slots.{gap_slot, is_gap_of}
use Rattle.table_widths.proofs.RowLemmas.{AreTaken, rows_skipped, taken_all, taken_first, taken_more, taken_same}

abbrev pub row_of : GridGap → ℕ
row_of g = g.row

abbrev pub no_gap : GridGap
no_gap = record { row = 0; first = 0; last = 0 }

abbrev pub AreGapsTaken : List GridGap → (row at : ℕ) → List Slot → Type 0
AreGapsTaken gaps row at slots = AreTaken row_of is_gap_of gap_slot gaps row at slots

only_gap : (row : ℕ) (x : GridGap) → is_gap_of row x ≡ true → row_of x ≡ row
only_gap row x e = eqb-true x.row row (and_parts (x.row == row) (nat_lt x.first x.last) e).0

pub gaps_skipped : (gaps : List GridGap) (row at : ℕ) → at < length gaps → (get_or gaps at no_gap).row < row →
    HasRowsFrom is_gap_of gaps row at → HasRowsFrom is_gap_of gaps row (at + 1)
gaps_skipped gaps row at lt less h = rows_skipped row_of is_gap_of only_gap gaps row at no_gap lt less h

pub gaps_first : (gaps : List GridGap) (row at : ℕ) → (at < length gaps → row ≤ (get_or gaps at no_gap).row) →
    HasRowsFrom is_gap_of gaps row at → AreGapsTaken gaps row at []
gaps_first gaps row at reached h = taken_first row_of is_gap_of only_gap gap_slot gaps row at h
    (λ d lt. let e : (get_or gaps at d).row ≡ (get_or gaps at no_gap).row =
    ap row_of (get_or_default gaps at d no_gap lt) in
    let le = reached lt in omega arith)

pub gaps_more : (gaps : List GridGap) (row at : ℕ) (slots : List Slot) → IsNonDecreasingBy (λ g. g.row) gaps →
    at < length gaps → (get_or gaps at no_gap).row ≡ row →
    (get_or gaps at no_gap).first < (get_or gaps at no_gap).last → AreGapsTaken gaps row at slots →
    AreGapsTaken gaps row (at + 1) (slots ++ gap_slot (get_or gaps at no_gap) ∷ [])
gaps_more gaps row at slots rises lt here some h =
    let g : GridGap = get_or gaps at no_gap in
    taken_more row_of is_gap_of only_gap gap_slot gaps row at slots no_gap rises lt
    (and_from (g.row == row) (nat_lt g.first g.last) (eq-eqb g.row row here) (lt-ltb g.first g.last some)) h

pub gaps_same : (gaps : List GridGap) (row at : ℕ) (slots : List Slot) → IsNonDecreasingBy (λ g. g.row) gaps →
    at < length gaps → (get_or gaps at no_gap).row ≡ row →
    (get_or gaps at no_gap).last ≤ (get_or gaps at no_gap).first → AreGapsTaken gaps row at slots →
    AreGapsTaken gaps row (at + 1) slots
gaps_same gaps row at slots rises lt here empty h =
    let g : GridGap = get_or gaps at no_gap in
    taken_same row_of is_gap_of only_gap gap_slot gaps row at slots no_gap rises lt here
    (and_right (g.row == row) (nat_lt g.first g.last) (le-ltb g.first g.last empty)) h

pub gaps_all : (gaps : List GridGap) (row at : ℕ) (slots : List Slot) → IsNonDecreasingBy (λ g. g.row) gaps →
    (at < length gaps → (get_or gaps at no_gap).row ≡ row → ⊥) → AreGapsTaken gaps row at slots →
    slots ≡ gaps_in gaps row
gaps_all gaps row at slots rises other h = taken_all row_of is_gap_of only_gap gap_slot gaps row at slots rises
    (λ d lt e. other lt (ap row_of (get_or_default gaps at no_gap d lt) ∙ e)) h
