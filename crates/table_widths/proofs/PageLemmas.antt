-- Cells and gaps of a table's rows, where each begins where another ends.
use Rattle.std.proofs.Common.{◌≡◌, ◌+◌, ◌<◌, ◌≤◌, ◌⊎◌, ◌&&◌, ◌∙◌, All, Bool, List, ap, arith, false, inl, inr, length}
use Rattle.std.proofs.Common.{nat_le, nat_lt, refl, subst, suc, sym, true, zero, ℕ}
use Rattle.std.specs.List.{AllByRecursion, AllPairs}
use Rattle.std.proofs.lemmas.Bool.Decides.{nat_tests}
use Rattle.std.proofs.lemmas.List.Elements.{All-from_recursion}
use Rattle.table_grid.specs.declared.cell.PlacedCell.{PlacedCell}
use Rattle.table_grid.specs.declared.gaps.Gap.{Gap}
use Rattle.table_grid.specs.Gaps.{IsGap, IsVacant, AreGaps}
use Rattle.table_grid.specs.PlaceLaws.{HasCellUpTo, HasGapUpTo, StandsIn, Takes, placed_at}
use Rattle.table_grid.specs.Places.{right_of, bottom_of}
use Rattle.table_widths.proofs.EachLemmas.{Has, IsAt, Pairs, each_weaker, at_has, some_or_none}

abbrev pub nobody : PlacedCell
nobody = record { cell = record { row = 0; colspan = 0; rowspan = 0; size = 0; least = 0 }; left = 0 }

-- What holds of the cells and the gaps of a table: at the columns of their grid, and at those that are left of these,
-- so many before each; and which rows are shown.
pub record IsPage (placed : List PlacedCell) (between : List Gap) (left : ℕ → ℕ) (shown : List ℕ) (total : ℕ) : Type 0
  where
    pub rises : (a b : ℕ) → a ≤ b → left a ≤ left b
    pub begins : left 0 ≡ 0
    pub within : (a : ℕ) → left a ≤ total
    pub some : All (λ p. 0 < p.cell.colspan) placed
    pub tall : All (λ p. 0 < p.cell.rowspan) placed
    pub in_row : AllPairs (λ p q. p.cell.row ≡ q.cell.row → right_of p ≤ q.left) placed
    pub apart : (j k row column : ℕ) → j < k → k < length placed → StandsIn row (placed_at placed j) →
        StandsIn row (placed_at placed k) → Takes column (placed_at placed j) → Takes column (placed_at placed k) → ⊥
    pub holes : (k row column : ℕ) → k < length placed → StandsIn row (placed_at placed k) →
        column + 1 ≡ (placed_at placed k).left →
        HasCellUpTo placed row (column + 1) ⊎ HasGapUpTo placed row (column + 1)
    pub gaps : AreGaps placed between
    pub rows : Pairs (λ r s. r < s) shown
    pub shown_some : (row : ℕ) → Has (λ r. r ≡ row) shown →
        IsAt (λ p. (p.cell.row ≡ row) × (left p.left < left (right_of p))) placed nobody
    pub shown_all : (k : ℕ) → k < length placed →
        left (placed_at placed k).left < left (right_of (placed_at placed k)) →
        Has (λ r. r ≡ (placed_at placed k).cell.row) shown

-- a cell that stands in the row takes these columns
pub record IsCell (placed : List PlacedCell) (row from to : ℕ) : Type 0 where
  pub place : ℕ
  pub lt : place < length placed
  pub stands : StandsIn row (placed_at placed place)
  pub begins : (placed_at placed place).left ≡ from
  pub ends : right_of (placed_at placed place) ≡ to

-- a cell that stands in the row takes these columns, or they are a gap of it
abbrev pub IsItem : List PlacedCell → (row from to : ℕ) → Type 0
IsItem placed row from to = IsCell placed row from to ⊎ IsGap placed row from to

record EndsItem (placed : List PlacedCell) (row to : ℕ) : Type 0 where
  from : ℕ
  item : IsItem placed row from to
  some : from < to

-- a cell or a gap of the row ends there, and has columns that are left
pub record HasItemTo (placed : List PlacedCell) (left : ℕ → ℕ) (row column : ℕ) : Type 0 where
  pub from : ℕ
  pub to : ℕ
  pub item : IsItem placed row from to
  pub some : left from < left to
  pub ends : left to ≡ column

intervals_apart : (a b c d : ℕ) → a < b → c < d → ((x : ℕ) → a ≤ x → x < b → c ≤ x → x < d → ⊥) →
    (b ≤ c) ⊎ (d ≤ a)
intervals_apart a b c d ab cd none = by (nat_lt c b) (nat_lt a d) (nat_lt a c) refl refl refl
  where
    by : (s t u : Bool) → nat_lt c b ≡ s → nat_lt a d ≡ t → nat_lt a c ≡ u → (b ≤ c) ⊎ (d ≤ a)
    by false t u e f g = inl (grind (arith, nat_tests))
    by true false u e f g = inr (grind (arith, nat_tests))
    by true true true e f g =
        let l : a < c = grind (arith, nat_tests) in
        absurd (none c (omega arith) (grind (arith, nat_tests)) (omega arith) cd)
    by true true false e f g =
        absurd (none a (omega arith) ab (grind (arith, nat_tests)) (grind (arith, nat_tests)))

abbrev takes : (row column : ℕ) → PlacedCell → Bool
takes row column p =
    nat_le p.cell.row row && (nat_lt row (bottom_of p) && (nat_le p.left column && nat_lt column (right_of p)))

stands_there : (row column : ℕ) (p : PlacedCell) → takes row column p ≡ true → StandsIn row p
stands_there row column p e = record { upper = grind (arith, nat_tests); reach = grind (arith, nat_tests) }

takes_there : (row column : ℕ) (p : PlacedCell) → takes row column p ≡ true → Takes column p
takes_there row column p e = record { from = grind (arith, nat_tests); to = grind (arith, nat_tests) }

vacant_by : (placed : List PlacedCell) (row column : ℕ) → AllByRecursion (λ p. takes row column p ≡ false) placed →
    IsVacant placed row column
vacant_by placed row column h = record {
  vacant = All-from_recursion (λ p. p.cell.row ≤ row → row < bottom_of p → p.left ≤ column → column < right_of p → ⊥)
      placed
      (each_weaker (λ p. takes row column p ≡ false)
      (λ p. p.cell.row ≤ row → row < bottom_of p → p.left ≤ column → column < right_of p → ⊥)
      (λ p e a b c d. grind (arith, nat_tests)) placed h);
}

module _ (placed : List PlacedCell) (between : List Gap) (left : ℕ → ℕ) (shown : List ℕ) (total : ℕ)
    (page : IsPage placed between left shown total) where
  cell_some : (k : ℕ) → k < length placed → (placed_at placed k).left < right_of (placed_at placed k)
  cell_some k lt = let s = page.some k nobody lt in omega arith

  -- two cells that stand in a row
  pub cells_apart : (row j k : ℕ) → j < length placed → k < length placed → (j ≡ k → ⊥) →
      StandsIn row (placed_at placed j) → StandsIn row (placed_at placed k) →
      (right_of (placed_at placed j) ≤ (placed_at placed k).left)
      ⊎ (right_of (placed_at placed k) ≤ (placed_at placed j).left)
  cells_apart row j k j_lt k_lt other one two =
      intervals_apart (placed_at placed j).left (right_of (placed_at placed j)) (placed_at placed k).left
      (right_of (placed_at placed k)) (cell_some j j_lt) (cell_some k k_lt)
      (λ x a b c d. by x (nat_lt j k) refl (record { from = a; to = b }) (record { from = c; to = d }))
    where
      by : (x : ℕ) (b : Bool) → nat_lt j k ≡ b → Takes x (placed_at placed j) → Takes x (placed_at placed k) → ⊥
      by x true e s t = page.apart j k row x (grind (arith, nat_tests)) k_lt one two s t
      by x false e s t = page.apart k j row x (grind (arith, nat_tests)) j_lt two one t s

  -- a gap of a row, and a cell that stands in it
  pub gap_apart : (row from to k : ℕ) → IsGap placed row from to → k < length placed →
      StandsIn row (placed_at placed k) →
      (to ≤ (placed_at placed k).left) ⊎ (right_of (placed_at placed k) ≤ from)
  gap_apart row from to k gap lt stands =
      intervals_apart from to (placed_at placed k).left (right_of (placed_at placed k)) gap.some (cell_some k lt)
      (λ x a b c d. (gap.vacant x a b).vacant k nobody lt stands.upper stands.reach c d)

  cell_before : (row column from : ℕ) → column + 1 ≡ from →
      HasCellUpTo placed row (column + 1) ⊎ HasGapUpTo placed row (column + 1) → EndsItem placed row from
  cell_before row column from e (inl h) = record {
    from = (placed_at placed h.place).left;
    item = inl
        (record { place = h.place; lt = h.within; stands = h.stands; begins = refl; ends = h.ends ∙ e });
    some = let s = cell_some h.place h.within in let f = h.ends in omega arith;
  }
  cell_before row column from e (inr h) = record {
    from = h.left;
    item = inr (subst (IsGap placed row h.left) e h.gap);
    some = let s = h.gap.some in omega arith;
  }

  taker_before : (row column from to : ℕ) → column + 1 ≡ from → IsGap placed row from to →
      IsAt (λ p. takes row column p ≡ true) placed nobody → EndsItem placed row from
  taker_before row column from to e gap t = record {
    from = (placed_at placed t.place).left;
    item = inl
        (record {
          place = t.place;
          lt = t.lt;
          stands = stands;
          begins = refl;
          ends = edge (nat_lt from (right_of (placed_at placed t.place))) refl;
        });
    some = let l = columns.from in omega arith;
  }
    where
      stands : StandsIn row (placed_at placed t.place)
      stands = stands_there row column (placed_at placed t.place) t.holds

      columns : Takes column (placed_at placed t.place)
      columns = takes_there row column (placed_at placed t.place) t.holds

      edge : (b : Bool) → nat_lt from (right_of (placed_at placed t.place)) ≡ b →
          right_of (placed_at placed t.place) ≡ from
      edge true f = absurd ((gap.vacant from (omega arith) gap.some).vacant t.place nobody t.lt stands.upper
          stands.reach (let l = columns.from in omega arith) (grind (arith, nat_tests)))
      edge false f = let l = columns.to in grind (arith, nat_tests)

  gap_before : (row column from to : ℕ) → column + 1 ≡ from → IsGap placed row from to →
      Has (λ p. takes row column p ≡ true) placed ⊎ AllByRecursion (λ p. takes row column p ≡ false) placed →
      EndsItem placed row from
  gap_before row column from to e gap (inl t) =
      taker_before row column from to e gap (at_has (λ p. takes row column p ≡ true) placed nobody t)
  gap_before row column from to e gap (inr v) = absurd (gap.begins column e (vacant_by placed row column v))

  -- after the first column another item ends where one begins
  item_before : (row column from to : ℕ) → column + 1 ≡ from → IsItem placed row from to → EndsItem placed row from
  item_before row column from to e (inl c) = cell_before row column from e
      (page.holes c.place row column c.lt c.stands (e ∙ sym c.begins))
  item_before row column from to e (inr g) = gap_before row column from to e g (some_or_none (takes row column) placed)

  -- an item begins at the first of the columns that are left, or where one ends that has some
  pub item_begins : (n row from to : ℕ) → from ≤ n → IsItem placed row from to →
      (left from ≡ 0) ⊎ HasItemTo placed left row (left from)
  item_begins zero row from to le item = let e : from ≡ 0 = omega arith in inl (ap left e ∙ page.begins)
  item_begins (suc n) row zero to le item = inl page.begins
  item_begins (suc n) row (suc column) to le item =
      step (item_before row column (suc column) to (omega arith) item)
      (λ from to le item. item_begins n row from to le item)
    where
      step : EndsItem placed row (suc column) →
          ((from to : ℕ) → from ≤ n → IsItem placed row from to →
          (left from ≡ 0) ⊎ HasItemTo placed left row (left from)) →
          (left (suc column) ≡ 0) ⊎ HasItemTo placed left row (left (suc column))
      step before further = by (nat_lt (left before.from) (left (suc column))) refl
        where
          by : (b : Bool) → nat_lt (left before.from) (left (suc column)) ≡ b →
              (left (suc column) ≡ 0) ⊎ HasItemTo placed left row (left (suc column))
          by true e = inr (record {
            from = before.from;
            to = suc column;
            item = before.item;
            some = grind (arith, nat_tests);
            ends = refl;
          })
          by false e =
              let some = before.some in
              let rise = page.rises before.from (suc column) (omega arith) in
              let same : left before.from ≡ left (suc column) = grind (arith, nat_tests) in
              subst (λ (x : ℕ). (x ≡ 0) ⊎ HasItemTo placed left row x) same
              (further before.from (suc column) (omega arith) before.item)
