-- In a row that a cell stands in, it begins at column 0, or where another cell or a gap ends.
use Rattle.std.proofs.Common.{◌≡◌, ◌+◌, ◌<◌, ◌≤◌, ◌⊎◌, ◌&&◌, All, Bool, List, arith, false, get_or, inl, inr, length}
use Rattle.std.proofs.Common.{nat_le, nat_lt, refl, subst, suc, true, zero, ℕ}
use Rattle.std.specs.List.Sorted.{IsNonDecreasingBy}
use Rattle.std.proofs.lemmas.Bool.Decides.{nat_tests}
use Rattle.std.proofs.lemmas.List.Elements.{All-from_get_or}
use Rattle.table_grid.specs.declared.cell.Cell.{Cell}
use Rattle.table_grid.specs.declared.cell.PlacedCell.{PlacedCell}
use Rattle.table_grid.specs.Places.{right_of, bottom_of, IsFree, ArePlaced}
use Rattle.table_grid.specs.Gaps.{IsVacant}
use Rattle.table_grid.specs.PlaceLaws.{HasCellUpTo, HasGapUpTo}
use Rattle.table_grid.proofs.ApartLemmas.{standing_apart, place_tight}

abbrev pub nobody : PlacedCell
nobody = record { cell = record { row = 0; colspan = 0; rowspan = 0; size = 0; least = 0 }; left = 0 }

-- a cell that stands in the row and takes the column
pub record HasTaker (placed : List PlacedCell) (row column : ℕ) : Type 0 where
  pub k : ℕ
  pub lt : k < length placed
  pub upper : (get_or placed k nobody).cell.row ≤ row
  pub reach : row < bottom_of (get_or placed k nobody)
  pub from : (get_or placed k nobody).left ≤ column
  pub to : column < right_of (get_or placed k nobody)

abbrev takes : ℕ → ℕ → PlacedCell → Bool
takes row column p =
    nat_le p.cell.row row && (nat_lt row (bottom_of p) && (nat_le p.left column && nat_lt column (right_of p)))

taker_below : (placed : List PlacedCell) (row column n : ℕ) → n ≤ length placed →
    ((k : ℕ) → n ≤ k → k < length placed → takes row column (get_or placed k nobody) ≡ true → ⊥) →
    HasTaker placed row column ⊎ IsVacant placed row column
taker_below placed row column zero le none_left = inr (record {
  vacant = All-from_get_or (λ p. p.cell.row ≤ row → row < bottom_of p → p.left ≤ column → column < right_of p → ⊥)
      placed nobody
      (λ k lt upper reach from to. none_left k (omega arith) lt (grind (arith, nat_tests)));
})
taker_below placed row column (suc n) le none_left =
    by (takes row column (get_or placed n nobody)) refl
    (λ further. taker_below placed row column n (omega arith) further)
  where
    by : (b : Bool) → takes row column (get_or placed n nobody) ≡ b →
        (((k : ℕ) → n ≤ k → k < length placed → takes row column (get_or placed k nobody) ≡ true → ⊥) →
        HasTaker placed row column ⊎ IsVacant placed row column) →
        HasTaker placed row column ⊎ IsVacant placed row column
    by true e further =
        inl
        (record {
          k = n;
          lt = omega arith;
          upper = grind (arith, nat_tests);
          reach = grind (arith, nat_tests);
          from =
              grind (arith, nat_tests);
          to = grind (arith, nat_tests);
        })
    by false e further = further (λ k from lt t. here k from lt t (nat_lt n k) refl)
      where
        clash : (b : Bool) → b ≡ false → b ≡ true → ⊥
        clash b f t = grind (arith, nat_tests)

        here : (k : ℕ) → n ≤ k → k < length placed → takes row column (get_or placed k nobody) ≡ true → (b : Bool) →
            nat_lt n k ≡ b → ⊥
        here k from lt t true u = none_left k (let l : n < k = grind (arith, nat_tests) in omega arith) lt t
        here k from lt t false u =
            let same : k ≡ n = grind (arith, nat_tests) in
            clash (takes row column (get_or placed n nobody)) e
            (subst (λ (m : ℕ). takes row column (get_or placed m nobody) ≡ true) same t)

pub taken_or_vacant : (placed : List PlacedCell) (row column : ℕ) →
    HasTaker placed row column ⊎ IsVacant placed row column
taken_or_vacant placed row column =
    taker_below placed row column (length placed) (omega arith) (λ k from lt. absurd (omega arith))

-- from a vacant stretch on to the left, as far as it goes
stretch : (placed : List PlacedCell) (row right n : ℕ) → n < right → (IsFree placed row right → ⊥) →
    ((column : ℕ) → n ≤ column → column < right → IsVacant placed row column) → HasGapUpTo placed row right
stretch placed row right zero lt ends vacant =
    record {
      left = zero;
      gap =
          record { some = lt; vacant = vacant; begins = λ column e v. absurd (omega arith); ends = ends };
    }
stretch placed row right (suc n) lt ends vacant =
    by (taken_or_vacant placed row n) (λ more. stretch placed row right n (omega arith) ends more)
  where
    by : HasTaker placed row n ⊎ IsVacant placed row n →
        (((column : ℕ) → n ≤ column → column < right → IsVacant placed row column) → HasGapUpTo placed row right) →
        HasGapUpTo placed row right
    by (inl t) go = record {
      left = suc n;
      gap = record {
        some = lt;
        vacant = vacant;
        ends = ends;
        begins = λ column e v. let same : column ≡ n = omega arith in
            v.vacant t.k nobody t.lt t.upper t.reach (let f = t.from in omega arith) (let f = t.to in omega arith);
      };
    }
    by (inr v) go = go (λ column from to. one column from to (nat_lt n column) refl)
      where
        one : (column : ℕ) → n ≤ column → column < right → (b : Bool) → nat_lt n column ≡ b → IsVacant placed row column
        one column from to true e = vacant column (let l : n < column = grind (arith, nat_tests) in omega arith) to
        one column from to false e = let same : n ≡ column = grind (arith, nat_tests) in
            subst (IsVacant placed row) same v

pub no_hole : (cells : List Cell) (placed : List PlacedCell) → ArePlaced cells placed →
    All (λ p. 0 < p.cell.colspan) placed → All (λ p. 0 < p.cell.rowspan) placed →
    IsNonDecreasingBy (λ p. p.cell.row) placed → (k row column : ℕ) → k < length placed →
    (get_or placed k nobody).cell.row ≤ row → row < bottom_of (get_or placed k nobody) →
    column + 1 ≡ (get_or placed k nobody).left →
    HasCellUpTo placed row (column + 1) ⊎ HasGapUpTo placed row (column + 1)
no_hole cells placed h some tall rows k row column lt upper reach e = by (taken_or_vacant placed row column)
  where
    mine : (column + 1 ≡ (get_or placed k nobody).left) × (0 < (get_or placed k nobody).cell.colspan)
    mine = (e, some k nobody lt)

    not_both : (j : ℕ) → j < length placed → (get_or placed j nobody).cell.row ≤ row →
        row < bottom_of (get_or placed j nobody) → (get_or placed j nobody).left ≤ column →
        column + 1 < right_of (get_or placed j nobody) → ⊥
    not_both j j_lt j_upper j_reach from to = order (nat_lt j k) (nat_lt k j) refl refl
      where
        order : (a b : Bool) → nat_lt j k ≡ a → nat_lt k j ≡ b → ⊥
        order true b f g = let m = mine in standing_apart cells placed h rows j k row (column + 1) nobody
            (grind (arith, nat_tests)) lt j_reach upper (omega arith) to (omega arith) (omega arith)
        order false true f g = let m = mine in
            standing_apart cells placed h rows k j row (column + 1) nobody (grind (arith, nat_tests)) j_lt reach j_upper
            (omega arith) (omega arith) (omega arith) to
        order false false f g =
            let same : j ≡ k = grind (arith, nat_tests) in
            let from_k : (get_or placed k nobody).left ≤ column =
            subst (λ (n : ℕ). (get_or placed n nobody).left ≤ column) same from in omega arith

    by : HasTaker placed row column ⊎ IsVacant placed row column →
        HasCellUpTo placed row (column + 1) ⊎ HasGapUpTo placed row (column + 1)
    by (inl t) =
        inl
        (record {
          place = t.k;
          within = t.lt;
          stands = record { upper = t.upper; reach = t.reach };
          ends =
              edge t (nat_lt (column + 1) (right_of (get_or placed t.k nobody))) refl;
        })
      where
        edge : (t : HasTaker placed row column) → (b : Bool) → nat_lt (column + 1) (right_of (get_or placed t.k nobody))
            ≡ b → right_of (get_or placed t.k nobody) ≡ column + 1
        edge t true f = absurd (not_both t.k t.lt t.upper t.reach t.from (grind (arith, nat_tests)))
        edge t false f = let to = t.to in grind (arith, nat_tests)
    by (inr v) = above (nat_lt (get_or placed k nobody).cell.row row) refl
      where
        above : (b : Bool) → nat_lt (get_or placed k nobody).cell.row row ≡ b →
            HasCellUpTo placed row (column + 1) ⊎ HasGapUpTo placed row (column + 1)
        above true f = inr (stretch placed row (column + 1) column (omega arith)
            (λ free. let m = mine in free.free k nobody lt (grind (arith, nat_tests)) reach (omega arith) (omega arith))
            (λ c from to. let same : column ≡ c = omega arith in subst (IsVacant placed row) same v))
        above false f =
            let same : row ≡ (get_or placed k nobody).cell.row = grind (arith, nat_tests) in
            absurd (place_tight cells placed h some tall k column nobody lt e
            (subst (λ (r : ℕ). IsVacant placed r column) same v))
