-- How many of the rows that are shown a cell reaches, from a row on.
use Rattle.std.proofs.Common.{◌≡◌, ◌+◌, ◌<◌, ◌≤◌, ◌&&◌, [], ◌∷◌, ◌∙◌, Bool, List, ap, arith, cond, count_by, false, inl}
use Rattle.std.proofs.Common.{inr, nat_le, nat_lt, refl, sym, true, ℕ}
use Rattle.std.specs.List.{AllByRecursion}
use Rattle.std.proofs.lemmas.Bool.Decides.{nat_tests}
use Rattle.std.proofs.lemmas.List.Sums.{sum_by-cons}
use Rattle.table_widths.proofs.EachLemmas.{Has, Pairs}

-- how many of the rows from one on stand before another
unfoldable pub reach : List ℕ → (from bottom : ℕ) → ℕ
reach rows from bottom = count_by (λ r. nat_le from r && nat_lt r bottom) rows

passes_alike : (row r : ℕ) (b : Bool) → nat_lt row r ≡ b → (r ≡ row → ⊥) → nat_le row r ≡ nat_le (row + 1) r
passes_alike row r true e apart = grind (arith, nat_tests)
passes_alike row r false e apart = grind (arith, nat_tests)

abbrev counted : (from r bottom : ℕ) → ℕ
counted from r bottom = cond (nat_le from r && nat_lt r bottom) 1 0

counts : (from r bottom : ℕ) → from ≤ r → r < bottom → counted from r bottom ≡ 1
counts from r bottom le lt = grind (arith, nat_tests)

counts_before : (from r bottom : ℕ) → r < from → counted from r bottom ≡ 0
counts_before from r bottom lt = grind (arith, nat_tests)

counts_nowhere : (from r bottom : ℕ) → bottom ≤ from → counted from r bottom ≡ 0
counts_nowhere from r bottom le = grind (arith, nat_tests)

reach_nothing : (from bottom : ℕ) → reach [] from bottom ≡ 0
unfolding reach
reach_nothing from bottom = refl

reach_cons : (r : ℕ) (rows : List ℕ) (from bottom : ℕ) → reach (r ∷ rows) from bottom
    ≡ counted from r bottom + reach rows from bottom
unfolding reach
reach_cons r rows from bottom = sum_by-cons (λ r. cond (nat_le from r && nat_lt r bottom) 1 0) r rows

-- a row that is none of them counts as none
pub reach_without : (rows : List ℕ) (row bottom : ℕ) → (Has (λ r. r ≡ row) rows → ⊥) →
    reach rows row bottom ≡ reach rows (row + 1) bottom
reach_without [] row bottom h = reach_nothing row bottom ∙ sym (reach_nothing (row + 1) bottom)
reach_without (r ∷ rows) row bottom h =
    let rest : reach rows row bottom ≡ reach rows (row + 1) bottom = reach_without rows row bottom (λ k. h (inr k)) in
    reach_cons r rows row bottom
    ∙ ap (λ (b : Bool). cond (b && nat_lt r bottom) 1 0 + reach rows row bottom)
    (passes_alike row r (nat_lt row r) refl (λ e. h (inl e)))
    ∙ ap (λ (n : ℕ). cond (nat_le (row + 1) r && nat_lt r bottom) 1 0 + n) rest
    ∙ sym (reach_cons r rows (row + 1) bottom)

none_before : (row r : ℕ) (rows : List ℕ) → row ≤ r → AllByRecursion (λ x. r < x) rows → Has (λ r. r ≡ row) rows → ⊥
none_before row r [] le h k = k
none_before row r (x ∷ rows) le h (inl e) = let a = h.0 in omega arith
none_before row r (x ∷ rows) le h (inr k) = none_before row r rows le h.1 k

comes_after : (row r : ℕ) (rows : List ℕ) → AllByRecursion (λ x. r < x) rows → Has (λ r. r ≡ row) rows → r < row
comes_after row r [] h k = absurd k
comes_after row r (x ∷ rows) h (inl e) = let a = h.0 in omega arith
comes_after row r (x ∷ rows) h (inr k) = comes_after row r rows h.1 k

-- a row that is one of them is passed
pub reach_with : (rows : List ℕ) (row bottom : ℕ) → Pairs (λ x y. x < y) rows → Has (λ r. r ≡ row) rows →
    row < bottom → reach rows row bottom ≡ reach rows (row + 1) bottom + 1
reach_with [] row bottom order h lt = absurd h
reach_with (r ∷ rows) row bottom order (inl e) lt =
    let rest : reach rows row bottom ≡ reach rows (row + 1) bottom =
    reach_without rows row bottom (λ k. none_before row r rows (omega arith) order.0 k) in
    let a = reach_cons r rows row bottom in let b = reach_cons r rows (row + 1) bottom in
    let one = counts row r bottom (omega arith) (omega arith) in
    let none = counts_before (row + 1) r bottom (omega arith) in
    omega arith
reach_with (r ∷ rows) row bottom order (inr h) lt =
    let rest : reach rows row bottom ≡ reach rows (row + 1) bottom + 1 = reach_with rows row bottom order.1 h lt in
    let before : r < row = comes_after row r rows order.0 h in
    let a = reach_cons r rows row bottom in let b = reach_cons r rows (row + 1) bottom in
    let one = counts_before row r bottom before in
    let none = counts_before (row + 1) r bottom (omega arith) in
    omega arith

-- from after the last row that it reaches there are none
pub reach_none : (rows : List ℕ) (row bottom : ℕ) → bottom ≤ row → reach rows row bottom ≡ 0
reach_none [] row bottom le = reach_nothing row bottom
reach_none (r ∷ rows) row bottom le =
    let rest : reach rows row bottom ≡ 0 = reach_none rows row bottom le in
    let a = reach_cons r rows row bottom in
    let none = counts_nowhere row r bottom le in
    omega arith

pub reaches : (rows : List ℕ) (row bottom : ℕ) → 0 < reach rows row bottom → row < bottom
reaches rows row bottom some = by (nat_lt row bottom) refl
  where
    by : (b : Bool) → nat_lt row bottom ≡ b → row < bottom
    by true e = grind (arith, nat_tests)
    by false e =
        let none : reach rows row bottom ≡ 0 = reach_none rows row bottom (grind (arith, nat_tests)) in
        absurd (omega arith)
