-- The gaps of one row that a function gives.
use Rattle.std.proofs.Common.{◌≡◌, ◌+◌, ◌-◌, ◌<◌, ◌≤◌, ◌&&◌, if◌then◌else◌, ◌∙◌, All, Bool, Contains, List, ap, arith}
use Rattle.std.proofs.Common.{false, get_or, nat_le, nat_lt, not, refl, subst, suc, sym, true, zero, ℕ}
use Rattle.std.specs.List.{AllPairs, filter, list_any, range_with_len}
use Rattle.std.proofs.lemmas.Bool.{false_from_ne_true, true_from_ne_false}
use Rattle.std.proofs.lemmas.Bool.Decides.{nat_tests}
use Rattle.std.proofs.lemmas.List.Elements.{All-map, filter_passes}
use Rattle.std.proofs.lemmas.List.Folds.{list_any_none, list_any_at}
use Rattle.table_grid.specs.declared.cell.PlacedCell.{PlacedCell}
use Rattle.table_grid.specs.Gaps.{IsVacant, IsGap, gap_of}
use Rattle.table_grid.specs.Places.{right_of, bottom_of, IsFree}
use Rattle.table_grid.specs.Placing.{covers_some, end_of, ends_gap, gap_before, gaps_in, is_vacant, takes, vacant_from}
use Rattle.table_grid.proofs.NumberLemmas.{contains_map, map_pairs, numbers_rise, number_in}
use Rattle.table_grid.proofs.PlacingLemmas.{ends_within, covers_one, covered_one, no_test, clash, both_tests}

takes_one : (row column : ℕ) (p : PlacedCell) → p.cell.row ≤ row → row < bottom_of p → p.left ≤ column →
    column < right_of p → takes row column p ≡ true
takes_one row column p upper reach from to = grind (arith, nat_tests)

taken_one : (row column : ℕ) (p : PlacedCell) → takes row column p ≡ true →
    (p.cell.row ≤ row) × (row < bottom_of p) × (p.left ≤ column) × (column < right_of p)
taken_one row column p e = grind (arith, nat_tests)

module _ (placed : List PlacedCell) (row : ℕ) where
  vacant : (column : ℕ) → is_vacant placed row column ≡ true → IsVacant placed row column
  vacant column e = record {
    vacant = λ k d lt upper reach from to. no_test (list_any (takes row column) placed) e
        (list_any_at (takes row column) placed k d lt (takes_one row column (get_or placed k d) upper reach from to));
  }

  is_vacant_there : (column : ℕ) → IsVacant placed row column → is_vacant placed row column ≡ true
  is_vacant_there column v = ap not (list_any_none (takes row column) placed
      (λ k d lt. false_from_ne_true (takes row column (get_or placed k d))
      (λ e. let t = taken_one row column (get_or placed k d) e in v.vacant k d lt t.0 t.1 t.2 t.3)))

  -- a cell from above covers the column
  abbrev is_covered : ℕ → Bool
  is_covered column = list_any (covers_some row column (suc column)) placed

  free : (column : ℕ) → is_covered column ≡ false → IsFree placed row column
  free column e = record {
    free = λ k d lt above reach left right. clash (is_covered column) e
        (list_any_at (covers_some row column (suc column)) placed k d lt
        (covers_one row column (suc column) column (get_or placed k d) (omega arith) (omega arith)
        (above, reach, left, right)));
  }

  not_free : (column : ℕ) → is_covered column ≡ true → IsFree placed row column → ⊥
  not_free column e f = clash (is_covered column) none e
    where
      none : is_covered column ≡ false
      none = list_any_none (covers_some row column (suc column)) placed
          (λ k d lt. false_from_ne_true (covers_some row column (suc column) (get_or placed k d))
          (λ t. let c = covered_one row column (suc column) (get_or placed k d) t in
          let left = c.0.2 in let right = c.0.3 in let last = c.1 in
          f.free k d lt c.0.0 c.0.1 (omega arith) (omega arith)))

  vacant_free : (column : ℕ) → IsVacant placed row column → IsFree placed row column
  vacant_free column v = record {
    free = λ k d lt above reach left right. v.vacant k d lt (omega arith) reach left right;
  }

  -- the columns without a cell before a column
  record IsStretch (right left : ℕ) : Type 0 where
    within : left ≤ right
    vacant : (column : ℕ) → left ≤ column → column < right → IsVacant placed row column
    begins : (column : ℕ) → column + 1 ≡ left → IsVacant placed row column → ⊥

  stretch_is : (right : ℕ) → IsStretch right (vacant_from placed row right)
  stretch_is zero = record {
    within = omega arith;
    vacant = λ column from to. absurd (omega arith);
    begins = λ column e v. absurd (omega arith);
  }
  stretch_is (suc right) = by (is_vacant placed row right) refl (stretch_is right)
    where
      by : (b : Bool) → is_vacant placed row right ≡ b → IsStretch right (vacant_from placed row right) →
          IsStretch (suc right) (if b then vacant_from placed row right else suc right)
      by true e h = record {
        within = let w = h.within in omega arith;
        vacant = λ column from to. last column from to (nat_lt column right) refl;
        begins = h.begins;
      }
        where
          last : (column : ℕ) → vacant_from placed row right ≤ column → column < suc right → (t : Bool) →
              nat_lt column right ≡ t → IsVacant placed row column
          last column from to true f = h.vacant column from (grind (arith, nat_tests))
          last column from to false f =
              let same : right ≡ column = grind (arith, nat_tests) in
              subst (IsVacant placed row) same (vacant right e)
      by false e h = record {
        within = omega arith;
        vacant = λ column from to. absurd (omega arith);
        begins = λ column f v.
            let same : column ≡ right = omega arith in
            clash (is_vacant placed row right) e
            (is_vacant_there right (subst (IsVacant placed row) same v));
      }

  one_stretch : (right a b : ℕ) → IsStretch right a → IsStretch right b → a ≡ b
  one_stretch right a b h k = by (nat_lt a b) (nat_lt b a) refl refl
    where
      less : (x y : ℕ) → IsStretch right x → IsStretch right y → x < y → ⊥
      less x y s t lt =
          let w = t.within in
          t.begins (y - 1) (omega arith) (s.vacant (y - 1) (omega arith) (omega arith))

      by : (s t : Bool) → nat_lt a b ≡ s → nat_lt b a ≡ t → a ≡ b
      by true t e f = absurd (less a b h k (grind (arith, nat_tests)))
      by false true e f = absurd (less b a k h (grind (arith, nat_tests)))
      by false false e f = grind (arith, nat_tests)

  gap_found : (right : ℕ) → ends_gap placed row right ≡ true →
      IsGap placed row (vacant_from placed row right) right
  gap_found right e =
      let both : (nat_lt (vacant_from placed row right) right ≡ true) × (is_covered right ≡ true) =
      both_tests (nat_lt (vacant_from placed row right) right) (is_covered right) e in
      let s = stretch_is right in
      record {
        some = let t = both.0 in grind (arith, nat_tests);
        vacant = s.vacant;
        begins = s.begins;
        ends = not_free right both.1;
      }

  gap_begins : (left right : ℕ) → IsGap placed row left right → left ≡ vacant_from placed row right
  gap_begins left right g = one_stretch right left (vacant_from placed row right)
      (record { within = let s = g.some in omega arith; vacant = g.vacant; begins = g.begins }) (stretch_is right)

  gap_ends : (left right : ℕ) → IsGap placed row left right → ends_gap placed row right ≡ true
  gap_ends left right g =
      let first : nat_lt (vacant_from placed row right) right ≡ true =
      (let s = g.some in let e = gap_begins left right g in grind (arith, nat_tests)) in
      ap (λ (b : Bool). b && is_covered right) first
      ∙ true_from_ne_false (is_covered right) (λ e. g.ends (free right e))

  gap_within : (left right : ℕ) → IsGap placed row left right → right < end_of placed
  gap_within left right g = by (nat_lt right (end_of placed)) refl
    where
      by : (b : Bool) → nat_lt right (end_of placed) ≡ b → right < end_of placed
      by true e = grind (arith, nat_tests)
      by false e =
          let trailing : end_of placed ≤ right = grind (arith, nat_tests) in
          absurd (g.ends (record {
            free = λ k d lt above reach from to. let w = ends_within placed k d lt in absurd (omega arith);
          }))

  -- a gap begins after the one before it
  gap_after : (m n : ℕ) → m < n → ends_gap placed row m ≡ true → m ≤ vacant_from placed row n
  gap_after m n lt e = by (nat_le m (vacant_from placed row n)) refl
    where
      by : (b : Bool) → nat_le m (vacant_from placed row n) ≡ b → m ≤ vacant_from placed row n
      by true f = grind (arith, nat_tests)
      by false f =
          let less : vacant_from placed row n < m = grind (arith, nat_tests) in
          absurd ((gap_found m e).ends (vacant_free m ((stretch_is n).vacant m (omega arith) lt)))

  abbrev ends : List ℕ
  ends = filter (ends_gap placed row) (range_with_len 0 (end_of placed))

  passed : All (λ n. ends_gap placed row n ≡ true) ends
  passed = filter_passes (ends_gap placed row) (range_with_len 0 (end_of placed))

  pub row_each : All (λ g. (g.row ≡ row) × IsGap placed row g.left g.right) (gaps_in placed row)
  row_each = All-map (λ g. (g.row ≡ row) × IsGap placed row g.left g.right) (gap_before placed row) ends
      (λ k d lt. (refl, gap_found (get_or ends k d) (passed k d lt)))

  pub row_order : AllPairs (λ g h. g.right ≤ h.left) (gaps_in placed row)
  row_order = map_pairs (λ g h. g.right ≤ h.left) (gap_before placed row) ends 0
      (λ i j d lt j_lt. gap_after (get_or ends i d) (get_or ends j d)
      (numbers_rise (ends_gap placed row) (end_of placed) i j d lt j_lt) (passed i d (omega arith)))

  pub row_all : (left right : ℕ) → IsGap placed row left right → Contains (gaps_in placed row) (gap_of row left right)
  row_all left right g =
      subst (λ (n : ℕ). Contains (gaps_in placed row) (gap_of row n right)) (sym (gap_begins left right g))
      (contains_map (gap_before placed row) ends right
      (number_in (ends_gap placed row) (end_of placed) right (gap_within left right g) (gap_ends left right g)))
