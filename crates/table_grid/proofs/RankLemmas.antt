-- Ranks among rising numbers.
use Rattle.std.proofs.Common.{◌≡◌, ◌<◌, ◌≤◌, [], ◌∷◌, ◌∙◌, Bool, Contains, IsPermutation, List, arith, cond, eqb, false}
use Rattle.std.proofs.Common.{get_or, length, nat_lt, refl, subst, suc, sym, true, zero, ℕ}
use Rattle.std.specs.List.{dedup}
use Rattle.std.specs.List.Sorted.{IsStrictlyIncreasing, IsSorted}
use Rattle.std.specs.Ordering.{nat_cmp}
use Rattle.std.proofs.lemmas.Bool.Decides.{nat_tests}
use Rattle.std.proofs.lemmas.List.{get_or_default}
use Rattle.std.proofs.lemmas.List.Sums.{sum_by-cons}
use Rattle.std.proofs.lemmas.List.Kept.{AllPairs-from_increasing, Contains-dedup_nat, Contains-from_dedup}
use Rattle.std.proofs.lemmas.List.Sorted.{Contains-permutation, IsPermutation-sym}
use Rattle.std.proofs.lemmas.Map.Keys.{IsStrictlyIncreasing-dedup}
use Rattle.table_grid.specs.declared.cell.PlacedCell.{PlacedCell}
use Rattle.table_grid.specs.Grid.{rank, sides, AreEdges}

pub rank_is : (xs : List ℕ) (x i : ℕ) → i ≤ length xs → ((j : ℕ) → j < i → get_or xs j 0 < x) →
    ((j : ℕ) → i ≤ j → j < length xs → x ≤ get_or xs j 0) → rank xs x ≡ i
unfolding rank
rank_is [] x i le low high = omega arith
rank_is (y ∷ ys) x zero le low high =
    let here = high zero (omega arith) (omega arith) in
    let rest = rank_is ys x zero (omega arith) (λ j lt. absurd (omega arith))
    (λ j from lt. high (suc j) (omega arith) (omega arith)) in
    let whole = sum_by-cons (λ z. cond (nat_lt z x) 1 0) y ys in
    grind (arith, nat_tests)
rank_is (y ∷ ys) x (suc i) le low high =
    let here = low zero (omega arith) in
    let rest = rank_is ys x i (omega arith) (λ j lt. low (suc j) (omega arith))
    (λ j from lt. high (suc j) (omega arith) (omega arith)) in
    let whole = sum_by-cons (λ z. cond (nat_lt z x) 1 0) y ys in
    grind (arith, nat_tests)

pub never_falls : (xs : List ℕ) → IsStrictlyIncreasing xs → (i j : ℕ) → i ≤ j → j < length xs →
    get_or xs i 0 ≤ get_or xs j 0
never_falls xs rising i j le lt = by (nat_lt i j) refl
  where
    by : (b : Bool) → nat_lt i j ≡ b → get_or xs i 0 ≤ get_or xs j 0
    by true e = let a = AllPairs-from_increasing xs rising i j 0 (grind (arith, nat_tests)) lt in omega arith
    by false e = let same : i ≡ j = grind (arith, nat_tests) in rw same (omega arith)

-- a number's rank is its place
pub rank_at : (xs : List ℕ) (i : ℕ) → IsStrictlyIncreasing xs → i < length xs → rank xs (get_or xs i 0) ≡ i
rank_at xs i rising lt = rank_is xs (get_or xs i 0) i (omega arith)
    (λ j j_lt. AllPairs-from_increasing xs rising j i 0 j_lt lt) (λ j from j_lt. never_falls xs rising i j from j_lt)

pub rank_rises : (xs : List ℕ) (x y : ℕ) → x ≤ y → rank xs x ≤ rank xs y
unfolding rank
rank_rises [] x y le = omega arith
rank_rises (z ∷ xs) x y le =
    let rest = rank_rises xs x y le in
    let a = sum_by-cons (λ w. cond (nat_lt w x) 1 0) z xs in
    let b = sum_by-cons (λ w. cond (nat_lt w y) 1 0) z xs in
    grind (arith, nat_tests)

pub rank_less : (xs : List ℕ) (x y : ℕ) → IsStrictlyIncreasing xs → Contains xs x → Contains xs y → x < y →
    rank xs x < rank xs y
rank_less xs x y rising hx hy lt =
    let ex : get_or xs hx.0 0 ≡ x = get_or_default xs hx.0 0 x hx.1 ∙ hx.2 in
    let ey : get_or xs hy.0 0 ≡ y = get_or_default xs hy.0 0 y hy.1 ∙ hy.2 in
    let rx : rank xs x ≡ hx.0 = subst (λ (n : ℕ). rank xs n ≡ hx.0) ex (rank_at xs hx.0 rising hx.1) in
    let ry : rank xs y ≡ hy.0 = subst (λ (n : ℕ). rank xs n ≡ hy.0) ey (rank_at xs hy.0 rising hy.1) in
    let falls = never_falls xs rising hy.0 hx.0 in
    grind (arith, falls)

pub rank_within : (xs : List ℕ) (x : ℕ) → IsStrictlyIncreasing xs → Contains xs x → rank xs x < length xs
rank_within xs x rising hx =
    let ex : get_or xs hx.0 0 ≡ x = get_or_default xs hx.0 0 x hx.1 ∙ hx.2 in
    let rx : rank xs x ≡ hx.0 = subst (λ (n : ℕ). rank xs n ≡ hx.0) ex (rank_at xs hx.0 rising hx.1) in
    let lt = hx.1 in omega arith

pub edges_are : (placed : List PlacedCell) (pushed sorted : List ℕ) → pushed ≡ sides placed →
    IsPermutation pushed sorted → IsSorted nat_cmp sorted → AreEdges placed (dedup eqb sorted)
edges_are placed pushed sorted all moved in_order = record {
  rising = IsStrictlyIncreasing-dedup sorted in_order;
  all = λ edge h. Contains-dedup_nat sorted edge
      (Contains-permutation pushed sorted edge moved (subst (λ (xs : List ℕ). Contains xs edge) (sym all) h));
  only = λ edge h. subst (λ (xs : List ℕ). Contains xs edge) all
      (Contains-permutation sorted pushed edge (IsPermutation-sym pushed sorted moved)
      (Contains-from_dedup eqb sorted edge h));
}
