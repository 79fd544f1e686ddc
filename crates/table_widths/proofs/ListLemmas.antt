-- Columns from two lists.
use Rattle.std.proofs.Common.{◌≡◌, ◌+◌, ◌-◌, ◌<◌, ◌≤◌, [], ◌∷◌, ◌++◌, All, List, add-one, ap, arith, get_or, length}
use Rattle.std.proofs.Common.{refl, suc, sum, sum_by, take, zero, ℕ}
use Rattle.std.proofs.lemmas.List.Sums.{sum_by-cons}
use Rattle.std.proofs.lemmas.List.Elements.{All-cons}
use Rattle.table_widths.proofs.TotalLemmas.{sum_law}
use Rattle.table_widths.specs.declared.column.ColumnShare.{ColumnShare}
use Rattle.table_widths.specs.Widths.{columns_of, least_of, share_of, separators, IsColumnWidths}

more : (i : ℕ) (ls ss : List ℕ) → i < length ls → i < length ss →
    columns_of (take (suc i) ls) (take (suc i) ss) ≡ columns_of (take i ls) (take i ss)
    ++ record { least = get_or ls i 0; share = get_or ss i 0 } ∷ []
unfolding columns_of
more i [] ss l s = absurd (omega arith)
more i (x ∷ ls) [] l s = absurd (omega arith)
more zero (x ∷ ls) (y ∷ ss) l s = refl
more (suc i) (x ∷ ls) (y ∷ ss) l s =
    ap (λ cs. record { least = x; share = y } ∷ cs) (more i ls ss (omega arith) (omega arith))

pub columns_more : (i : ℕ) (ls ss : List ℕ) → i < length ls → i < length ss →
    columns_of (take (i + 1) ls) (take (i + 1) ss) ≡ columns_of (take i ls) (take i ss)
    ++ record { least = get_or ls i 0; share = get_or ss i 0 } ∷ []
columns_more i ls ss l s = rw (add-one i) (more i ls ss l s)

pub length-columns_of : (ls ss : List ℕ) → length ls ≡ length ss → length (columns_of ls ss) ≡ length ls
unfolding columns_of
length-columns_of [] ss e = refl
length-columns_of (x ∷ ls) [] e = absurd (omega arith)
length-columns_of (x ∷ ls) (y ∷ ss) e = let r = length-columns_of ls ss (omega arith) in omega arith

pub sum-columns_of : (ls ss : List ℕ) → length ls ≡ length ss → sum_by least_of (columns_of ls ss) ≡ sum ls
unfolding columns_of
sum-columns_of [] ss e = refl
sum-columns_of (x ∷ ls) [] e = absurd (omega arith)
sum-columns_of (x ∷ ls) (y ∷ ss) e =
    let r = sum-columns_of ls ss (omega arith) in
    let a = sum_by-cons least_of (record { least = x; share = y }) (columns_of ls ss) in
    let b = sum_by-cons (λ (n : ℕ). n) x ls in omega arith

pub within-columns_of : (ls ss : List ℕ) → ((i : ℕ) → i < length ls → get_or ls i 0 ≤ get_or ss i 0) →
    All (λ c. c.least ≤ c.share) (columns_of ls ss)
unfolding columns_of
within-columns_of [] ss h = λ k d lt. absurd (omega arith)
within-columns_of (x ∷ ls) [] h = λ k d lt. absurd (omega arith)
within-columns_of (x ∷ ls) (y ∷ ss) h =
    All-cons (λ (c : ColumnShare). c.least ≤ c.share) (record { least = x; share = y }) (columns_of ls ss)
    (h zero (omega arith)) (within-columns_of ls ss (λ i lt. h (suc i) (omega arith)))

pub share_sum-columns_of : (ls ss : List ℕ) → length ls ≡ length ss → sum_by share_of (columns_of ls ss) ≡ sum ss
unfolding columns_of
share_sum-columns_of [] [] e = refl
share_sum-columns_of [] (y ∷ ss) e = absurd (omega arith)
share_sum-columns_of (x ∷ ls) [] e = absurd (omega arith)
share_sum-columns_of (x ∷ ls) (y ∷ ss) e =
    let r = share_sum-columns_of ls ss (omega arith) in
    let a = sum_by-cons share_of (record { least = x; share = y }) (columns_of ls ss) in
    let b = sum_by-cons (λ (n : ℕ). n) y ss in omega arith

pub fit_lists : (ls ss : List ℕ) (width : ℕ) → length ls ≡ length ss → sum ls + (length ls - 1) ≤ width →
    sum_by least_of (columns_of ls ss) + separators (columns_of ls ss) ≤ width
fit_lists ls ss width e fit = let a = sum-columns_of ls ss e in let b = length-columns_of ls ss e in omega arith

pub sum_lists : (ls ss ws : List ℕ) (width : ℕ) → length ls ≡ length ss → sum ls + (length ls - 1) ≤ width →
    IsColumnWidths (columns_of ls ss) width ws →
    width < sum ss + (length ls - 1) → sum ws + (length ls - 1) ≡ width
sum_lists ls ss ws width e fit h over =
    let b = length-columns_of ls ss e in let d = share_sum-columns_of ls ss e in
    let s = sum_law (columns_of ls ss) width ws (fit_lists ls ss width e fit) h (omega arith) in omega arith
