-- The places that a function gives are those that the relation says.
use Rattle.std.proofs.Common.{◌≡◌, ◌+◌, ◌<◌, ◌≤◌, ◌&&◌, [], ◌∷◌, ◌++◌, ◌∙◌, All, Bool, List, ap, append-nil}
use Rattle.std.proofs.Common.{append_assoc, arith, false, get_or, max, nat_lt, not, refl, subst, sym, true, ℕ}
use Rattle.std.specs.List.{list_all, list_any}
use Rattle.std.proofs.lemmas.Bool.{false_from_ne_true}
use Rattle.std.proofs.lemmas.Bool.Decides.{nat_tests}
use Rattle.std.proofs.lemmas.List.Elements.{All-cons, All-nil, All-weaker}
use Rattle.std.proofs.lemmas.List.Folds.{list_any_none, list_any_at}
use Rattle.std.proofs.lemmas.List.Sums.{AllPass-from_list_all, list_all-from_AllPass}
use Rattle.table_grid.specs.declared.cell.Cell.{Cell}
use Rattle.table_grid.specs.declared.cell.PlacedCell.{PlacedCell}
use Rattle.table_grid.specs.Places.{right_of, bottom_of, Fits, IsPlace, ArePlaced}
use Rattle.table_grid.specs.Placing.{covers_some, end_of, is_passed, may_begin, place_of, placed_after, placed_cell}
use Rattle.table_grid.specs.Placing.{places_of}
use Rattle.table_grid.proofs.FirstLemmas.{IsFirst, first_is}
use Rattle.table_grid.proofs.RowLemmas.{placed_more}

pub ends_within : (placed : List PlacedCell) → All (λ p. right_of p ≤ end_of placed) placed
unfolding end_of
ends_within [] = All-nil (λ p. right_of p ≤ 0)
ends_within (p ∷ placed) = All-cons (λ q. right_of q ≤ max (right_of p) (end_of placed)) p placed (omega arith)
    (All-weaker (λ q. right_of q ≤ end_of placed) (λ q. right_of q ≤ max (right_of p) (end_of placed))
    (λ q le. omega arith) placed (ends_within placed))

-- a cell from above covers this column of this row
abbrev pub Covers : (row column : ℕ) → PlacedCell → Type 0
Covers row column p = (p.cell.row < row) × (row < bottom_of p) × (p.left ≤ column) × (column < right_of p)

pub covers_one : (row from to column : ℕ) (p : PlacedCell) → from ≤ column → column < to → Covers row column p →
    covers_some row from to p ≡ true
covers_one row from to column p le lt h = grind (arith, nat_tests)

pub covered_one : (row from to : ℕ) (p : PlacedCell) → covers_some row from to p ≡ true →
    Covers row (max p.left from) p × (max p.left from < to)
covered_one row from to p e = grind (arith, nat_tests)

-- tests that are met, and not
pub no_test : (b : Bool) → not b ≡ true → b ≡ true → ⊥
no_test b f t = grind (arith, nat_tests)

pub clash : (b : Bool) → b ≡ false → b ≡ true → ⊥
clash b f t = grind (arith, nat_tests)

pub both_tests : (a b : Bool) → (a && b) ≡ true → (a ≡ true) × (b ≡ true)
both_tests a b e = grind (arith, nat_tests)

passed : (row start : ℕ) (p : PlacedCell) → is_passed row start p ≡ true → p.cell.row ≡ row → right_of p ≤ start
passed row start p t e = grind (arith, nat_tests)

passes : (row start : ℕ) (p : PlacedCell) → (p.cell.row ≡ row → right_of p ≤ start) → is_passed row start p ≡ true
passes row start p h = grind (arith, nat_tests)

module _ (before : List PlacedCell) (cell : Cell) where
  abbrev covers_here : ℕ → PlacedCell → Bool
  covers_here start = covers_some cell.row start (start + cell.colspan)

  fits : (start : ℕ) → may_begin before cell start ≡ true → Fits before cell start
  fits start e =
      let both : (list_all (is_passed cell.row start) before ≡ true)
      × (not (list_any (covers_here start) before) ≡ true) =
      both_tests (list_all (is_passed cell.row start) before) (not (list_any (covers_here start) before)) e in
      record {
        trailing = All-weaker (λ p. is_passed cell.row start p ≡ true) (λ p. p.cell.row ≡ cell.row → right_of p ≤ start)
            (λ p t. passed cell.row start p t) before
            (AllPass-from_list_all (is_passed cell.row start) before both.0);
        free = λ column from to. record {
          free = λ k d lt above reach left right. no_test (list_any (covers_here start) before) both.1
              (list_any_at (covers_here start) before k d lt
              (covers_one cell.row start (start + cell.colspan) column (get_or before k d) from to
              (above, reach, left, right)));
        };
      }

  begins : (start : ℕ) → Fits before cell start → may_begin before cell start ≡ true
  begins start h = ap (λ (b : Bool). b && not (list_any (covers_here start) before)) all ∙ ap not none
    where
      all : list_all (is_passed cell.row start) before ≡ true
      all = list_all-from_AllPass (is_passed cell.row start) before
          (All-weaker (λ p. p.cell.row ≡ cell.row → right_of p ≤ start) (λ p. is_passed cell.row start p ≡ true)
          (λ p t. passes cell.row start p t) before h.trailing)

      none : list_any (covers_here start) before ≡ false
      none = list_any_none (covers_here start) before
          (λ k d lt. false_from_ne_true (covers_here start (get_or before k d))
          (λ e. let c = covered_one cell.row start (start + cell.colspan) (get_or before k d) e in
          (h.free (max (get_or before k d).left start) (omega arith) c.1).free k d lt c.0.0 c.0.1 c.0.2 c.0.3))

  fits_after_all : Fits before cell (end_of before)
  fits_after_all = record {
    trailing = λ k d lt e. ends_within before k d lt;
    free = λ column from to. record {
      free = λ k d lt above reach left right. let w = ends_within before k d lt in absurd (omega arith);
    };
  }

  pub place_is : IsPlace before cell (place_of before cell)
  unfolding place_of
  place_is = of (place_of before cell) (first_is (may_begin before cell) (end_of before))
    where
      of : (start : ℕ) → IsFirst (may_begin before cell) (end_of before) start → IsPlace before cell start
      of start h = record {
        fits = here (nat_lt start (end_of before)) refl;
        first = λ earlier f. no_earlier earlier f (nat_lt earlier start) refl;
      }
        where
          here : (b : Bool) → nat_lt start (end_of before) ≡ b → Fits before cell start
          here true e = fits start (h.passes (grind (arith, nat_tests)))
          here false e =
              let within = h.within in
              let same : end_of before ≡ start = grind (arith, nat_tests) in
              subst (Fits before cell) same fits_after_all

          no_earlier : (earlier : ℕ) → Fits before cell earlier → (b : Bool) → nat_lt earlier start ≡ b →
              start ≤ earlier
          no_earlier earlier f true e =
              let fails : may_begin before cell earlier ≡ false = h.fails earlier (grind (arith, nat_tests)) in
              let may : may_begin before cell earlier ≡ true = begins earlier f in
              absurd (clash (may_begin before cell earlier) fails may)
          no_earlier earlier f false e = grind (arith, nat_tests)

after_placed : (done : List Cell) (before : List PlacedCell) (cells : List Cell) → ArePlaced done before →
    ArePlaced (done ++ cells) (placed_after before cells)
after_placed done before [] h = subst (λ (cs : List Cell). ArePlaced cs before) (sym (append-nil done)) h
after_placed done before (cell ∷ cells) h =
    subst (λ (cs : List Cell). ArePlaced cs (placed_after (before ++ placed_cell before cell ∷ []) cells))
    (append_assoc done (cell ∷ []) cells)
    (after_placed (done ++ cell ∷ []) (before ++ placed_cell before cell ∷ []) cells
    (placed_more done before cell (place_of before cell) h (place_is before cell)))

pub are_placed : (cells : List Cell) → ArePlaced cells (places_of cells)
unfolding places_of
are_placed cells = after_placed [] [] cells (record { same = refl; each = λ k d lt. absurd (omega arith) })
