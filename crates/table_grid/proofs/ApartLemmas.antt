-- What the places of a table's cells keep.
use Rattle.std.proofs.Common.{◌≡◌, ◌+◌, ◌<◌, ◌≤◌, All, Bool, List, arith, false, get_or, length, length-take, nat_lt}
use Rattle.std.proofs.Common.{refl, subst, take, true, ℕ}
use Rattle.std.specs.List.Sorted.{IsNonDecreasingBy}
use Rattle.std.proofs.lemmas.Bool.Decides.{nat_tests}
use Rattle.std.proofs.lemmas.List.{get_or-take}
use Rattle.std.proofs.lemmas.List.Elements.{All-take}
use Rattle.table_grid.specs.declared.cell.Cell.{Cell}
use Rattle.table_grid.specs.declared.cell.PlacedCell.{PlacedCell}
use Rattle.table_grid.specs.Places.{right_of, bottom_of, IsFree, ArePlaced}
use Rattle.table_grid.specs.Gaps.{IsVacant}

-- what holds of all before a cell holds of one of them
before_one : (P : PlacedCell → Type 0) → (placed : List PlacedCell) (j k : ℕ) (d : PlacedCell) → j < k →
    k < length placed → All P (take k placed) → P (get_or placed j d)
before_one P placed j k d lt k_lt all =
    subst P (get_or-take k placed j d lt) (all j d (let n = length-take k placed in omega arith))

-- no two cells that stand in a row have a column in common
pub standing_apart : (cells : List Cell) (placed : List PlacedCell) → ArePlaced cells placed →
    IsNonDecreasingBy (λ p. p.cell.row) placed →
    (j k row column : ℕ) (d : PlacedCell) → j < k → k < length placed → row < bottom_of (get_or placed j d) →
    (get_or placed k d).cell.row ≤ row →
    (get_or placed j d).left ≤ column → column < right_of (get_or placed j d) → (get_or placed k d).left ≤ column →
    column < right_of (get_or placed k d) → ⊥
standing_apart cells placed h rows j k row column d lt k_lt reach above from to left right =
    by (nat_lt (get_or placed j d).cell.row (get_or placed k d).cell.row) refl
  where
    by : (b : Bool) → nat_lt (get_or placed j d).cell.row (get_or placed k d).cell.row ≡ b → ⊥
    by true e =
        before_one (λ p. p.cell.row < (get_or placed k d).cell.row → (get_or placed k d).cell.row < bottom_of p →
        p.left ≤ column → column < right_of p → ⊥) placed j k d lt k_lt
        (((h.each k d k_lt).fits.free column left right).free) (grind (arith, nat_tests)) (omega arith) from to
    by false e =
        let le = rows j k d (omega arith) k_lt in
        let same : (get_or placed j d).cell.row ≡ (get_or placed k d).cell.row = grind (arith, nat_tests) in
        let trailing = before_one (λ p. p.cell.row ≡ (get_or placed k d).cell.row → right_of p ≤ (get_or placed k d).left)
        placed j k d lt k_lt (h.each k d k_lt).fits.trailing same in
        omega arith

-- a cell stands at the first column, or after a column where another stands: every gap is one before a covered place
pub place_tight : (cells : List Cell) (placed : List PlacedCell) → ArePlaced cells placed →
    All (λ p. 0 < p.cell.colspan) placed → All (λ p. 0 < p.cell.rowspan) placed →
    (k column : ℕ) (d : PlacedCell) → k < length placed → column + 1 ≡ (get_or placed k d).left →
    IsVacant placed (get_or placed k d).cell.row column → ⊥
place_tight cells placed h some tall k column d lt e vacant =
    let before = (h.each k d lt).first column (record { trailing = trailing; free = free }) in omega arith
  where
    front : All (λ p. p.cell.row ≤ (get_or placed k d).cell.row → (get_or placed k d).cell.row < bottom_of p →
        p.left ≤ column → column < right_of p → ⊥) (take k placed)
    front = All-take (λ p. p.cell.row ≤ (get_or placed k d).cell.row → (get_or placed k d).cell.row < bottom_of p →
        p.left ≤ column → column < right_of p → ⊥) k placed vacant.vacant

    trailing : All (λ p. p.cell.row ≡ (get_or placed k d).cell.row → right_of p ≤ column) (take k placed)
    trailing j f j_lt same =
        let r = (h.each k d lt).fits.trailing j f j_lt same in
        let wide = All-take (λ p. 0 < p.cell.colspan) k placed some j f j_lt in
        let high = All-take (λ p. 0 < p.cell.rowspan) k placed tall j f j_lt in
        let v = front j f j_lt in
        grind (arith, v)

    free : (x : ℕ) → column ≤ x → x < column + (get_or placed k d).cell.colspan →
        IsFree (take k placed) (get_or placed k d).cell.row x
    free x from to = by (nat_lt column x) refl
      where
        by : (b : Bool) → nat_lt column x ≡ b → IsFree (take k placed) (get_or placed k d).cell.row x
        by true t = (h.each k d lt).fits.free x (let l : column < x = grind (arith, nat_tests) in omega arith)
            (omega arith)
        by false t =
            let same : x ≡ column = grind (arith, nat_tests) in
            record {
              free = λ j f j_lt above reach left right. front j f j_lt (omega arith) reach (omega arith)
                  (omega arith);
            }
