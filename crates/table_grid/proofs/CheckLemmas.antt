-- Places of a given list are checked by computing.
use Rattle.std.proofs.Common.{◌≡◌, ◌+◌, ◌<◌, ◌≤◌, ◌&&◌, ◌||◌, [], ◌∷◌, ◌++◌, All, Bool, List, append-nil, append_assoc}
use Rattle.std.proofs.Common.{arith, false, map, max, nat_eq, nat_le, nat_lt, not, refl, subst, suc, sym, true, zero, ℕ}
use Rattle.std.proofs.lemmas.Bool.Decides.{nat_tests}
use Rattle.std.proofs.lemmas.List.Elements.{All-cons, All-nil, All-head, All-tail, All-push}
use Rattle.table_grid.specs.declared.cell.Cell.{Cell}
use Rattle.table_grid.specs.declared.cell.PlacedCell.{PlacedCell}
use Rattle.table_grid.specs.Places.{cell_of, right_of, bottom_of, Fits, IsPlace, ArePlaced}
use Rattle.table_grid.specs.Gaps.{IsVacant}
use Rattle.table_grid.proofs.RowLemmas.{placed_more}

-- a cell may begin here, for all that another does
unfoldable pub is_clear : PlacedCell → Cell → ℕ → Bool
is_clear p c start =
    (not (nat_eq p.cell.row c.row) || nat_le (right_of p) start)
    && (not (nat_lt p.cell.row c.row && nat_lt c.row (bottom_of p)) ||
    (nat_le (right_of p) start || nat_le (start + c.colspan) p.left))

unfoldable pub fits_at : List PlacedCell → Cell → ℕ → Bool
fits_at [] c start = true
fits_at (p ∷ before) c start = is_clear p c start && fits_at before c start

unfoldable pub none_before : List PlacedCell → Cell → ℕ → Bool
none_before before c zero = true
none_before before c (suc n) = not (fits_at before c n) && none_before before c n

unfoldable pub stand : List PlacedCell → List PlacedCell → Bool
stand before [] = true
stand before (p ∷ rest) =
    (nat_lt 0 p.cell.colspan && (fits_at before p.cell p.left && none_before before p.cell p.left)) && stand
    (before ++ p ∷ []) rest

left_true : (a b : Bool) → (a && b) ≡ true → a ≡ true
left_true a b e = grind arith

right_true : (a b : Bool) → (a && b) ≡ true → b ≡ true
right_true a b e = grind arith

after_one : (p : PlacedCell) (c : Cell) (start : ℕ) → is_clear p c start ≡ true → p.cell.row ≡ c.row →
    right_of p ≤ start
unfolding is_clear
after_one p c start e same = grind (arith, nat_tests)

free_one : (p : PlacedCell) (c : Cell) (start column : ℕ) → is_clear p c start ≡ true → start ≤ column →
    column < start + c.colspan →
    p.cell.row < c.row → c.row < bottom_of p → p.left ≤ column → column < right_of p → ⊥
unfolding is_clear
free_one p c start column e from to above reach left right = grind (arith, nat_tests)

fits_after : (before : List PlacedCell) (c : Cell) (start : ℕ) → fits_at before c start ≡ true →
    All (λ p. p.cell.row ≡ c.row → right_of p ≤ start) before
unfolding fits_at
fits_after [] c start e = All-nil (λ p. p.cell.row ≡ c.row → right_of p ≤ start)
fits_after (p ∷ before) c start e = All-cons (λ p. p.cell.row ≡ c.row → right_of p ≤ start) p before
    (after_one p c start (left_true (is_clear p c start) (fits_at before c start) e))
    (fits_after before c start (right_true (is_clear p c start) (fits_at before c start) e))

fits_free : (before : List PlacedCell) (c : Cell) (start column : ℕ) → fits_at before c start ≡ true → start ≤ column →
    column < start + c.colspan →
    All (λ p. p.cell.row < c.row → c.row < bottom_of p → p.left ≤ column → column < right_of p → ⊥) before
unfolding fits_at
fits_free [] c start column e from to =
    All-nil (λ p. p.cell.row < c.row → c.row < bottom_of p → p.left ≤ column → column < right_of p → ⊥)
fits_free (p ∷ before) c start column e from to =
    All-cons (λ p. p.cell.row < c.row → c.row < bottom_of p → p.left ≤ column → column < right_of p → ⊥) p before
    (free_one p c start column (left_true (is_clear p c start) (fits_at before c start) e) from to)
    (fits_free before c start column (right_true (is_clear p c start) (fits_at before c start) e) from to)

clear_one : (p : PlacedCell) (c : Cell) (start : ℕ) → 0 < p.cell.colspan → 0 < c.colspan →
    (p.cell.row ≡ c.row → right_of p ≤ start) →
    ((column : ℕ) → start ≤ column → column < start + c.colspan → p.cell.row < c.row → c.row < bottom_of p →
    p.left ≤ column → column < right_of p → ⊥) →
    is_clear p c start ≡ true
unfolding is_clear
clear_one p c start wide wide_too trailing free = let meets = free (max start p.left) in
    grind (arith, nat_tests, trailing, meets)

fits_all : (before : List PlacedCell) (c : Cell) (start : ℕ) → All (λ p. 0 < p.cell.colspan) before → 0 < c.colspan →
    All (λ p. p.cell.row ≡ c.row → right_of p ≤ start) before →
    ((column : ℕ) → start ≤ column → column < start + c.colspan →
    All (λ p. p.cell.row < c.row → c.row < bottom_of p → p.left ≤ column → column < right_of p → ⊥) before) →
    fits_at before c start ≡ true
unfolding fits_at
fits_all [] c start wide some trailing free = refl
fits_all (p ∷ before) c start wide some trailing free =
    both (is_clear p c start) (fits_at before c start)
    (clear_one p c start (All-head (λ p. 0 < p.cell.colspan) p before wide) some
    (All-head (λ p. p.cell.row ≡ c.row → right_of p ≤ start) p before trailing)
    (λ column from to. All-head (λ p. p.cell.row < c.row → c.row < bottom_of p → p.left ≤ column → column < right_of p →
    ⊥) p before (free column from to)))
    (fits_all before c start (All-tail (λ p. 0 < p.cell.colspan) p before wide) some
    (All-tail (λ p. p.cell.row ≡ c.row → right_of p ≤ start) p before trailing)
    (λ column from to. All-tail (λ p. p.cell.row < c.row → c.row < bottom_of p → p.left ≤ column → column < right_of p →
    ⊥) p before (free column from to)))
  where
    both : (a b : Bool) → a ≡ true → b ≡ true → (a && b) ≡ true
    both a b e f = grind arith

none_fits : (before : List PlacedCell) (c : Cell) (n : ℕ) → none_before before c n ≡ true → (earlier : ℕ) →
    earlier < n → fits_at before c earlier ≡ true → ⊥
unfolding none_before
none_fits before c zero e earlier lt fits = absurd (omega arith)
none_fits before c (suc n) e earlier lt fits =
    by (nat_lt earlier n) refl
    (λ l. none_fits before c n (right_true (not (fits_at before c n)) (none_before before c n) e) earlier l fits)
  where
    clash : (b : Bool) → not b ≡ true → b ≡ true → ⊥
    clash b f g = grind arith

    by : (b : Bool) → nat_lt earlier n ≡ b → (earlier < n → ⊥) → ⊥
    by true f more = more (grind (arith, nat_tests))
    by false f more =
        let same : earlier ≡ n = grind (arith, nat_tests) in
        clash (fits_at before c n) (left_true (not (fits_at before c n)) (none_before before c n) e)
        (subst (λ (m : ℕ). fits_at before c m ≡ true) same fits)

stands : (before : List PlacedCell) (c : Cell) (start : ℕ) → All (λ p. 0 < p.cell.colspan) before → 0 < c.colspan →
    fits_at before c start ≡ true → none_before before c start ≡ true → IsPlace before c start
stands before c start wide some fits none = record {
  fits = record {
    trailing = fits_after before c start fits;
    free = λ column from to. record { free = fits_free before c start column fits from to };
  };
  first = λ earlier h. by earlier h (nat_lt earlier start) refl;
}
  where
    by : (earlier : ℕ) → Fits before c earlier → (b : Bool) → nat_lt earlier start ≡ b → start ≤ earlier
    by earlier h true e = absurd (none_fits before c start none earlier (grind (arith, nat_tests))
        (fits_all before c earlier wide some h.trailing (λ column from to. (h.free column from to).free)))
    by earlier h false e = grind (arith, nat_tests)

stand_more : (cells : List Cell) (before rest : List PlacedCell) → ArePlaced cells before →
    All (λ p. 0 < p.cell.colspan) before → stand before rest ≡ true →
    ArePlaced (cells ++ map cell_of rest) (before ++ rest)
unfolding stand
stand_more cells before [] h wide e =
    subst (λ (xs : List Cell). ArePlaced xs (before ++ [])) (sym (append-nil cells))
    (subst (ArePlaced cells) (sym (append-nil before)) h)
stand_more cells before (p ∷ rest) h wide e =
    subst (λ (xs : List Cell). ArePlaced xs (before ++ p ∷ rest)) (append_assoc cells (p.cell ∷ []) (map cell_of rest))
    (subst (ArePlaced ((cells ++ p.cell ∷ []) ++ map cell_of rest)) (append_assoc before (p ∷ []) rest)
    (stand_more (cells ++ p.cell ∷ []) (before ++ p ∷ []) rest (placed_more cells before p.cell p.left h here)
    (All-push (λ p. 0 < p.cell.colspan) before p wide some) (right_true first (stand (before ++ p ∷ []) rest) e)))
  where
    first : Bool
    first = nat_lt 0 p.cell.colspan && (fits_at before p.cell p.left && none_before before p.cell p.left)

    all : first ≡ true
    all = left_true first (stand (before ++ p ∷ []) rest) e

    some : 0 < p.cell.colspan
    some = let w = left_true (nat_lt 0 p.cell.colspan)
        (fits_at before p.cell p.left && none_before before p.cell p.left) all in grind (arith, nat_tests)

    two : (fits_at before p.cell p.left && none_before before p.cell p.left) ≡ true
    two = right_true (nat_lt 0 p.cell.colspan) (fits_at before p.cell p.left && none_before before p.cell p.left) all

    here : IsPlace before p.cell p.left
    here = stands before p.cell p.left wide some
        (left_true (fits_at before p.cell p.left) (none_before before p.cell p.left) two)
        (right_true (fits_at before p.cell p.left) (none_before before p.cell p.left) two)

-- what is checked so is where the cells stand
pub are_placed : (placed : List PlacedCell) → stand [] placed ≡ true → ArePlaced (map cell_of placed) placed
are_placed placed e = stand_more [] [] placed (record { same = refl; each = λ k d lt. absurd (omega arith) })
    (All-nil (λ p. 0 < p.cell.colspan)) e

unfoldable pub misses_here : PlacedCell → ℕ → ℕ → Bool
misses_here p row column =
    not (nat_le p.cell.row row && (nat_lt row (bottom_of p) && (nat_le p.left column && nat_lt column (right_of p))))

unfoldable pub vacant_at : List PlacedCell → ℕ → ℕ → Bool
vacant_at [] row column = true
vacant_at (p ∷ placed) row column = misses_here p row column && vacant_at placed row column

misses_one : (p : PlacedCell) (row column : ℕ) → misses_here p row column ≡ true → p.cell.row ≤ row →
    row < bottom_of p → p.left ≤ column → column < right_of p → ⊥
unfolding misses_here
misses_one p row column e upper reach from to = grind (arith, nat_tests)

all_miss : (placed : List PlacedCell) (row column : ℕ) → vacant_at placed row column ≡ true →
    All (λ p. p.cell.row ≤ row → row < bottom_of p → p.left ≤ column → column < right_of p → ⊥) placed
unfolding vacant_at
all_miss [] row column e =
    All-nil (λ p. p.cell.row ≤ row → row < bottom_of p → p.left ≤ column → column < right_of p → ⊥)
all_miss (p ∷ placed) row column e =
    All-cons (λ p. p.cell.row ≤ row → row < bottom_of p → p.left ≤ column → column < right_of p → ⊥) p placed
    (misses_one p row column (left_true (misses_here p row column) (vacant_at placed row column) e))
    (all_miss placed row column (right_true (misses_here p row column) (vacant_at placed row column) e))

pub is_vacant : (placed : List PlacedCell) (row column : ℕ) → vacant_at placed row column ≡ true →
    IsVacant placed row column
is_vacant placed row column e = record { vacant = all_miss placed row column e }
