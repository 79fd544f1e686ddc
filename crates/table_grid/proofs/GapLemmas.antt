-- Gaps among covers are gaps among cells, and stay so when later rows are placed.
use Rattle.std.proofs.Common.{◌≡◌, ◌+◌, ◌-◌, ◌<◌, ◌≤◌, [], ◌++◌, ◌∙◌, All, Bool, Contains, List, ap, arith, false}
use Rattle.std.proofs.Common.{get_or, inl, inr, length, length-append, nat_lt, refl, subst, sym, take, true, ℕ}
use Rattle.std.proofs.lemmas.Bool.Decides.{nat_tests}
use Rattle.std.proofs.lemmas.List.{get_or-take, get_or_append_left, get_or-append_right}
use Rattle.std.specs.List.{AllPairs}
use Rattle.std.proofs.lemmas.List.Elements.{All-append, Contains-append_left, Contains-append_right}
use Rattle.table_grid.specs.declared.cell.Cell.{Cell}
use Rattle.table_grid.specs.declared.covers.Cover.{Cover}
use Rattle.table_grid.specs.declared.gaps.Gap.{Gap}
use Rattle.table_grid.specs.declared.cell.PlacedCell.{PlacedCell}
use Rattle.table_grid.specs.Places.{right_of, bottom_of, IsFree}
use Rattle.table_grid.specs.Covers.{Misses, IsAfterRow}
use Rattle.table_grid.specs.Gaps.{IsVacant, IsGap, BeginsIn, IsBefore, AreGaps, gap_of}
use Rattle.table_grid.specs.RowGaps.{IsBare, IsGapIn, AreGapsIn}

bare_misses : (covers : List Cover) (column : ℕ) → IsBare covers column → Misses covers column
bare_misses covers column h = record { misses = h.bare }

misses_bare : (covers : List Cover) (column : ℕ) → Misses covers column → IsBare covers column
misses_bare covers column h = record { bare = h.misses }

vacant_bare : (row : ℕ) (cells : List Cell) (covers own : List Cover) (old placed : List PlacedCell) (column : ℕ) →
    IsAfterRow cells row covers own old placed → IsVacant placed row column →
    IsBare covers column × IsBare own column
vacant_bare row cells covers own old placed column h v =
    let both = h.fewer column
    (record { all = λ k d lt reach. v.vacant k d lt (h.upper k d lt) reach }) in
    (misses_bare covers column both.0, misses_bare own column both.1)

bare_vacant : (row : ℕ) (cells : List Cell) (covers own : List Cover) (old placed : List PlacedCell) (column : ℕ) →
    IsAfterRow cells row covers own old placed → IsBare covers column → IsBare own column →
    IsVacant placed row column
bare_vacant row cells covers own old placed column h a b =
    let all = h.more column (bare_misses covers column a) (bare_misses own column b) in
    record { vacant = λ k d lt upper reach. all.all k d lt reach }

gap_out : (row : ℕ) (cells : List Cell) (covers own : List Cover) (old placed : List PlacedCell) (left right : ℕ) →
    IsAfterRow cells row covers own old placed → IsGapIn covers own left right → IsGap placed row left right
gap_out row cells covers own old placed left right h g = record {
  some = g.some;
  vacant = λ column from to. let both = g.bare column from to in
      bare_vacant row cells covers own old placed column h both.0 both.1;
  begins = λ column e v. let both = vacant_bare row cells covers own old placed column h v in
      g.begins column e both.0 both.1;
  ends = λ free. g.ends (misses_bare covers right (h.taken right free));
}

gap_in : (row : ℕ) (cells : List Cell) (covers own : List Cover) (old placed : List PlacedCell) (left right : ℕ) →
    IsAfterRow cells row covers own old placed → IsGap placed row left right → IsGapIn covers own left right
gap_in row cells covers own old placed left right h g = record {
  some = g.some;
  bare = λ column from to. vacant_bare row cells covers own old placed column h
      (g.vacant column from to);
  begins = λ column e a b. g.begins column e (bare_vacant row cells covers own old placed column h a b);
  ends = λ bare. g.ends (h.free right (bare_misses covers right bare));
}

-- a row above the new ones: its cells and gaps stay
module _ (old placed : List PlacedCell) (row : ℕ) (farther : length old ≤ length placed)
    (stays : take (length old) placed ≡ old)
    (fresh : (k : ℕ) (d : PlacedCell) → length old ≤ k → k < length placed → row < (get_or placed k d).cell.row) where
  old_at : (k : ℕ) (d : PlacedCell) → k < length old → get_or old k d ≡ get_or placed k d
  old_at k d lt = ap (λ (xs : List PlacedCell). get_or xs k d) (sym stays) ∙ get_or-take (length old) placed k d lt

  old_all : (P : PlacedCell → Type 0) → All P placed → All P old
  old_all P h k d lt = subst P (sym (old_at k d lt)) (h k d (omega arith))

  new_all : (P : PlacedCell → Type 0) → ((p : PlacedCell) → row < p.cell.row → P p) → All P old → All P placed
  new_all P later h k d lt = by (nat_lt k (length old)) refl
    where
      by : (b : Bool) → nat_lt k (length old) ≡ b → P (get_or placed k d)
      by true e = let k_lt : k < length old = grind (arith, nat_tests) in subst P (old_at k d k_lt) (h k d k_lt)
      by false e = later (get_or placed k d) (fresh k d (grind (arith, nat_tests)) lt)

  vacant_more : (column : ℕ) → IsVacant old row column → IsVacant placed row column
  vacant_more column h =
      record {
        vacant = new_all (λ p. p.cell.row ≤ row → row < bottom_of p → p.left ≤ column → column < right_of p → ⊥)
            (λ p lt le. absurd (omega arith)) h.vacant;
      }

  vacant_less : (column : ℕ) → IsVacant placed row column → IsVacant old row column
  vacant_less column h =
      record {
        vacant = old_all (λ p. p.cell.row ≤ row → row < bottom_of p → p.left ≤ column → column < right_of p → ⊥)
            h.vacant;
      }

  free_more : (column : ℕ) → IsFree old row column → IsFree placed row column
  free_more column h =
      record {
        free = new_all (λ p. p.cell.row < row → row < bottom_of p → p.left ≤ column → column < right_of p → ⊥)
            (λ p lt le. absurd (omega arith)) h.free;
      }

  free_less : (column : ℕ) → IsFree placed row column → IsFree old row column
  free_less column h =
      record {
        free = old_all (λ p. p.cell.row < row → row < bottom_of p → p.left ≤ column → column < right_of p → ⊥)
            h.free;
      }

  pub gap_more : (left right : ℕ) → IsGap old row left right → IsGap placed row left right
  gap_more left right g = record {
    some = g.some;
    vacant = λ column from to. vacant_more column (g.vacant column from to);
    begins = λ column e v. g.begins column e (vacant_less column v);
    ends = λ f. g.ends (free_less right f);
  }

  pub gap_less : (left right : ℕ) → IsGap placed row left right → IsGap old row left right
  gap_less left right g = record {
    some = g.some;
    vacant = λ column from to. vacant_less column (g.vacant column from to);
    begins = λ column e v. g.begins column e (vacant_more column v);
    ends = λ f. g.ends (free_more right f);
  }

pub no_gaps : AreGaps [] []
no_gaps = record {
  begin = λ k d lt. absurd (omega arith);
  each = λ k d lt. absurd (omega arith);
  order =
      λ i j d lt j_lt. absurd (omega arith);
  all = λ row left right b. let lt = b.lt in absurd (omega arith);
}

pub pairs_append : {X : Type 0} (R : X → X → Type 0) (xs ys : List X) → AllPairs R xs → AllPairs R ys →
    ((i j : ℕ) (d : X) → i < length xs → j < length ys → R (get_or xs i d) (get_or ys j d)) →
    AllPairs R (xs ++ ys)
pairs_append R xs ys hx hy cross i j d lt j_lt = by (nat_lt i (length xs)) (nat_lt j (length xs)) refl refl
  where
    len : length (xs ++ ys) ≡ length xs + length ys
    len = length-append xs ys

    by : (b c : Bool) → nat_lt i (length xs) ≡ b → nat_lt j (length xs) ≡ c →
        R (get_or (xs ++ ys) i d) (get_or (xs ++ ys) j d)
    by true true e f =
        let k : j < length xs = grind (arith, nat_tests) in
        rw (get_or_append_left xs ys d i (omega arith), get_or_append_left xs ys d j k) (hx i j d lt k)
    by true false e f =
        let k : i < length xs = grind (arith, nat_tests) in let m : length xs ≤ j = grind (arith, nat_tests) in
        rw (get_or_append_left xs ys d i k, get_or-append_right xs ys (length xs) j d refl m)
        (cross i (j - length xs) d k (let n = len in omega arith))
    by false c e f =
        let k : length xs ≤ i = grind (arith, nat_tests) in
        rw (
          get_or-append_right xs ys (length xs) i d refl k,
          get_or-append_right xs ys (length xs) j d refl
              (omega arith),
        ) (hy (i - length xs) (j - length xs) d (omega arith) (let n = len in omega arith))

-- one more row
pub gaps_more : (row : ℕ) (cells : List Cell) (covers own : List Cover) (old placed : List PlacedCell)
    (old_gaps gaps : List Gap) → length old < length placed →
    All (λ p. p.cell.row < row) old → IsAfterRow cells row covers own old placed → AreGaps old old_gaps →
    AreGapsIn row covers own old_gaps gaps → AreGaps placed gaps
gaps_more row cells covers own old placed old_gaps gaps grows above h was now = record {
  begin = subst (All (λ g. BeginsIn placed g.row)) (sym now.whole)
      (All-append (λ g. BeginsIn placed g.row) old_gaps now.more
      (λ k d lt. let b = was.begin k d lt in
      record {
        place = b.place;
        lt = let l = b.lt in omega arith;
        at =
            λ e. subst (λ (p : PlacedCell). p.cell.row ≡ (get_or old_gaps k d).row) (same b.place e b.lt) (b.at e);
      })
      (λ k d lt. let e = (now.each k d lt).0 in
      record { place = length old; lt = grows; at = λ f. h.fresh (length old) f (omega arith) grows ∙ sym e }));
  each = subst (All (λ g. IsGap placed g.row g.left g.right)) (sym now.whole)
      (All-append (λ g. IsGap placed g.row g.left g.right) old_gaps now.more
      (λ k d lt. let b = was.begin k d lt in gap_more old placed (get_or old_gaps k d).row h.farther h.stays
      (λ j e from j_lt. let f = h.fresh j e from j_lt in let a = below b in omega arith)
      (get_or old_gaps k d).left (get_or old_gaps k d).right (was.each k d lt))
      (λ k d lt. let e = now.each k d lt in
      subst (λ (n : ℕ). IsGap placed n (get_or now.more k d).left (get_or now.more k d).right) (sym e.0)
      (gap_out row cells covers own old placed (get_or now.more k d).left (get_or now.more k d).right h e.1)));
  order = subst (AllPairs IsBefore) (sym now.whole) (pairs_append IsBefore old_gaps now.more was.order
      (λ i j d lt j_lt. let e = (now.each i d (omega arith)).0 in let f = (now.each j d j_lt).0 in
      inr (e ∙ sym f, now.order i j d lt j_lt))
      (λ i j d lt j_lt. let b = below (was.begin i d lt) in let f = (now.each j d j_lt).0 in inl (omega arith)));
  all = λ r left right b gap. by r left right b gap (nat_lt b.place (length old)) refl;
}
  where
    no_placed : PlacedCell
    no_placed = record { cell = record { row = 0; colspan = 0; rowspan = 0; size = 0; least = 0 }; left = 0 }

    same : (k : ℕ) (d : PlacedCell) → k < length old → get_or old k d ≡ get_or placed k d
    same k d lt = ap (λ (xs : List PlacedCell). get_or xs k d) (sym h.stays) ∙ get_or-take (length old) placed k d lt

    below : {r : ℕ} → BeginsIn old r → r < row
    below {r = r} b = let a = above b.place no_placed b.lt in let e = b.at no_placed in omega arith

    by : (r left right : ℕ) (b : BeginsIn placed r) → IsGap placed r left right → (t : Bool) →
        nat_lt b.place (length old) ≡ t → Contains gaps (gap_of r left right)
    by r left right b gap true e =
        let lt : b.place < length old = grind (arith, nat_tests) in
        let old_b : BeginsIn old r =
        record {
          place = b.place;
          lt = lt;
          at =
              λ d. subst (λ (p : PlacedCell). p.cell.row ≡ r) (sym (same b.place d lt)) (b.at d);
        } in
        let before : r < row = below old_b in
        let g = gap_less old placed r h.farther h.stays (λ j f from j_lt. let x = h.fresh j f from j_lt in omega arith)
        left right gap in
        subst (λ (xs : List Gap). Contains xs (gap_of r left right)) (sym now.whole)
        (Contains-append_left old_gaps now.more (gap_of r left right) (was.all r left right old_b g))
    by r left right b gap false e =
        let is_row : r ≡ row = let x = h.fresh b.place no_placed (grind (arith, nat_tests)) b.lt in let y =
        b.at no_placed in omega arith in
        let g : IsGap placed row left right = subst (λ (n : ℕ). IsGap placed n left right) is_row gap in
        let c : Contains now.more (gap_of row left right) =
        now.all left right (gap_in row cells covers own old placed left right h g) in
        subst (λ (xs : List Gap). Contains xs (gap_of r left right)) (sym now.whole)
        (subst (λ (n : ℕ). Contains (old_gaps ++ now.more) (gap_of n left right)) (sym is_row)
        (Contains-append_right old_gaps now.more (gap_of row left right) c))

pub row_grows : (row : ℕ) (cells : List Cell) (covers own : List Cover) (old placed : List PlacedCell) (d : Cell) →
    IsAfterRow cells row covers own old placed → length old < length cells →
    row ≡ (get_or cells (length old) d).row → length old < length placed
row_grows row cells covers own old placed d h lt at = by (nat_lt (length old) (length placed)) refl
  where
    by : (b : Bool) → nat_lt (length old) (length placed) ≡ b → length old < length placed
    by true e = grind (arith, nat_tests)
    by false e =
        let farther = h.farther in
        let same : length placed ≡ length old = grind (arith, nat_tests) in
        absurd (h.over d (omega arith) (subst (λ (n : ℕ). (get_or cells n d).row ≡ row) (sym same) (sym at)))
