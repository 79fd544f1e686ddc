-- The columns that are left before an edge of the grid.
use Rattle.std.proofs.Common.{◌≡◌, ◌≤◌, [], ◌∷◌, ◌∙◌, Bool, List, ap, arith, cond, count_by, filter, length, nat_lt}
use Rattle.std.proofs.Common.{refl, suc, take, zero, ℕ}
use Rattle.std.proofs.lemmas.Bool.Decides.{nat_tests}
use Rattle.std.proofs.lemmas.List.Sums.{sum_by-cons, length-filter}
use Rattle.table_grid.specs.declared.columns.Column.{Column}
use Rattle.table_grid.specs.Grid.{has_size, left_before, rank}

-- so many columns are left before an edge
abbrev pub left_at : List ℕ → List Column → ℕ → ℕ
left_at edges columns edge = left_before columns (rank edges edge)

rank_rises : (xs : List ℕ) (x y : ℕ) → x ≤ y → rank xs x ≤ rank xs y
unfolding rank
rank_rises [] x y le = omega arith
rank_rises (z ∷ xs) x y le =
    let rest = rank_rises xs x y le in
    let a = sum_by-cons (λ w. cond (nat_lt w x) 1 0) z xs in
    let b = sum_by-cons (λ w. cond (nat_lt w y) 1 0) z xs in
    grind (arith, nat_tests)

rank_none : (xs : List ℕ) → rank xs 0 ≡ 0
unfolding rank
rank_none [] = refl
rank_none (z ∷ xs) =
    let rest = rank_none xs in
    let a = sum_by-cons (λ w. cond (nat_lt w 0) 1 0) z xs in
    grind (arith, nat_tests)

counts_rise : (p : Column → Bool) (xs : List Column) (m n : ℕ) → m ≤ n →
    count_by p (take m xs) ≤ count_by p (take n xs)
counts_rise p xs zero n le = omega arith
counts_rise p xs (suc m) zero le = absurd (omega arith)
counts_rise p [] (suc m) (suc n) le = omega arith
counts_rise p (x ∷ xs) (suc m) (suc n) le =
    let rest = counts_rise p xs m n (omega arith) in
    let a = sum_by-cons (λ y. cond (p y) 1 0) x (take m xs) in
    let b = sum_by-cons (λ y. cond (p y) 1 0) x (take n xs) in
    omega arith

counts_within : (p : Column → Bool) (xs : List Column) (n : ℕ) → count_by p (take n xs) ≤ count_by p xs
counts_within p xs zero = omega arith
counts_within p [] (suc n) = omega arith
counts_within p (x ∷ xs) (suc n) =
    let rest = counts_within p xs n in
    let a = sum_by-cons (λ y. cond (p y) 1 0) x (take n xs) in
    let b = sum_by-cons (λ y. cond (p y) 1 0) x xs in
    omega arith

pub left_rises : (edges : List ℕ) (columns : List Column) (a b : ℕ) → a ≤ b →
    left_at edges columns a ≤ left_at edges columns b
unfolding left_before
left_rises edges columns a b le =
    counts_rise has_size columns (rank edges a) (rank edges b) (rank_rises edges a b le)

none_left : (columns : List Column) → left_before columns 0 ≡ 0
unfolding left_before
none_left columns = refl

pub left_begins : (edges : List ℕ) (columns : List Column) → left_at edges columns 0 ≡ 0
left_begins edges columns = ap (left_before columns) (rank_none edges) ∙ none_left columns

pub left_within : (edges : List ℕ) (columns : List Column) (a : ℕ) →
    left_at edges columns a ≤ length (filter has_size columns)
unfolding left_before
left_within edges columns a =
    let n = length-filter has_size columns in
    let w = counts_within has_size columns (rank edges a) in
    omega arith
