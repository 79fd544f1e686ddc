-- Cells in the order of their spans.
use Rattle.std.proofs.Common.{◌≡◌, ◌+◌, ◌-◌, ◌<◌, ◌≤◌, ◌∙◌, [], ◌∷◌, ◌++◌, All, Bool, List, ap, arith, cond}
use Rattle.std.proofs.Common.{false, filter, flat_map, get_or, length, nat_cmp, nat_lt, refl, suc, sym, true}
use Rattle.std.proofs.Common.{zero, ℕ}
use Rattle.std.specs.List.{AllByRecursion, range_with_len}
use Rattle.std.specs.List.Sorted.{IsNonDecreasingBy, IsPermutation, IsStableByKey, ties}
use Rattle.std.specs.Ordering.{is_lt}
use Rattle.std.proofs.lemmas.Bool.Decides.{nat_tests}
use Rattle.std.proofs.lemmas.Cmp.{ranked}
use Rattle.std.proofs.lemmas.List.Elements.{All-filter, All-weaker, filter_agree, filter_passes, recursion_from_All}
use Rattle.std.proofs.lemmas.List.Sorted.{All-permutation}
use Rattle.column_fits.specs.Fits.{AreWithin, in_order, is_over, span_of}
use Rattle.column_fits.specs.declared.cell.CellWidths.{CellWidths}
use Rattle.column_fits.proofs.EachLemmas.{append_each, each_always, each_append, each_both, each_filter, each_weaker}
use Rattle.column_fits.proofs.EachLemmas.{filter_each, none_each}

abbrev pub is_spanning : CellWidths → Bool
is_spanning c = nat_lt 1 (span_of c)

-- the cells over each number of columns from a first on
abbrev pub by_spans : (least many : ℕ) → List CellWidths → List CellWidths
by_spans least many cells = flat_map (λ n. filter (is_over n) cells) (range_with_len least many)

-- ---- tests

over_false : (n : ℕ) (c : CellWidths) → n < span_of c → is_over n c ≡ false
over_false n c lt = grind (arith, nat_tests)

under_false : (n : ℕ) (c : CellWidths) → span_of c < n → is_over n c ≡ false
under_false n c lt = grind (arith, nat_tests)

over_is : (n : ℕ) (c : CellWidths) → is_over n c ≡ true → span_of c ≡ n
over_is n c e = grind (arith, nat_tests)

over_not : (n : ℕ) (c : CellWidths) → is_over n c ≡ false → n ≤ span_of c → n < span_of c
over_not n c e le = grind (arith, nat_tests)

-- ---- a list in the order of spans is what its spans give, one after another

abbrev Above : ℕ → List CellWidths → Type 0
Above n cells = AllByRecursion (λ c. n ≤ span_of c) cells

abbrev Rises : List CellWidths → Type 0
Rises [] = Unit {0}
Rises (c ∷ cells) = Above (span_of c) cells × Rises cells

above_at : (n : ℕ) (cells : List CellWidths) (d : CellWidths) →
    ((k : ℕ) → k < length cells → n ≤ span_of (get_or cells k d)) → Above n cells
above_at n [] d h = tt
above_at n (c ∷ cells) d h = (h zero (omega arith), above_at n cells d (λ k lt. h (suc k) (omega arith)))

rises_at : (cells : List CellWidths) → IsNonDecreasingBy span_of cells → Rises cells
rises_at [] h = tt
rises_at (c ∷ cells) h = (
  above_at (span_of c) cells c (λ k lt. h zero (suc k) c (omega arith) (omega arith)),
  rises_at cells (λ i j d le lt. h (suc i) (suc j) d (omega arith) (omega arith)),
)

none_over : (n : ℕ) (cells : List CellWidths) → Above (n + 1) cells → filter (is_over n) cells ≡ []
none_over n [] h = refl
none_over n (c ∷ cells) h =
    ap (λ (b : Bool). cond b (c ∷ filter (is_over n) cells) (filter (is_over n) cells))
    (over_false n c (let le = h.0 in omega arith)) ∙ none_over n cells h.1

no_spans : (least many : ℕ) → by_spans least many [] ≡ []
no_spans least zero = refl
no_spans least (suc many) = no_spans (least + 1) many

passed_by : (least many : ℕ) (c : CellWidths) (cells : List CellWidths) → span_of c < least →
    by_spans least many (c ∷ cells) ≡ by_spans least many cells
passed_by least zero c cells lt = refl
passed_by least (suc many) c cells lt =
    ap (λ (b : Bool). cond b (c ∷ filter (is_over least) cells) (filter (is_over least) cells)
    ++ by_spans (least + 1) many (c ∷ cells)) (under_false least c lt)
    ∙ ap (λ (rest : List CellWidths). filter (is_over least) cells ++ rest)
    (passed_by (least + 1) many c cells (omega arith))

comes_first : (least many : ℕ) (c : CellWidths) (cells : List CellWidths) → Above (span_of c) cells →
    least ≤ span_of c → span_of c < least + many → by_spans least many (c ∷ cells) ≡ c ∷ by_spans least many cells
comes_first least zero c cells h le lt = absurd (omega arith)
comes_first least (suc many) c cells h le lt =
    by (is_over least c) refl (comes_first (least + 1) many c cells h)
  where
    by : (b : Bool) → is_over least c ≡ b →
        (least + 1 ≤ span_of c → span_of c < least + 1 + many →
        by_spans (least + 1) many (c ∷ cells) ≡ c ∷ by_spans (least + 1) many cells) →
        cond b (c ∷ filter (is_over least) cells) (filter (is_over least) cells)
        ++ by_spans (least + 1) many (c ∷ cells)
        ≡ c ∷ (filter (is_over least) cells ++ by_spans (least + 1) many cells)
    by true e further =
        let same = over_is least c e in
        ap (λ (rest : List CellWidths). c ∷ (filter (is_over least) cells ++ rest))
        (passed_by (least + 1) many c cells (omega arith))
    by false e further =
        let more = over_not least c e le in
        let none = none_over least cells (each_weaker (λ d. span_of c ≤ span_of d) (λ d. least + 1 ≤ span_of d)
        (λ d up. omega arith) cells h) in
        ap (λ (front : List CellWidths). front ++ by_spans (least + 1) many (c ∷ cells)) none
        ∙ further (omega arith) (omega arith)
        ∙ ap (λ (front : List CellWidths). c ∷ (front ++ by_spans (least + 1) many cells)) (sym none)

in_turn : (least many : ℕ) (cells : List CellWidths) → Rises cells → Above least cells →
    AllByRecursion (λ c. span_of c < least + many) cells → by_spans least many cells ≡ cells
in_turn least many [] rises above below = no_spans least many
in_turn least many (c ∷ cells) rises above below =
    comes_first least many c cells rises.0 above.0 below.0
    ∙ ap (λ (rest : List CellWidths). c ∷ rest) (in_turn least many cells rises.1 above.1 below.1)

spans_agree : (least many : ℕ) (xs ys : List CellWidths) →
    ((n : ℕ) → least ≤ n → filter (is_over n) xs ≡ filter (is_over n) ys) →
    by_spans least many xs ≡ by_spans least many ys
spans_agree least zero xs ys same = refl
spans_agree least (suc many) xs ys same =
    ap (λ (front : List CellWidths). front ++ by_spans (least + 1) many xs) (same least (omega arith))
    ∙ ap (λ (rest : List CellWidths). filter (is_over least) ys ++ rest)
    (spans_agree (least + 1) many xs ys (λ n le. same n (omega arith)))

-- ---- a stable sort

-- a cell over a number of columns
abbrev over : ℕ → CellWidths
over n = record { first = 0; last = n; narrowest = 0; widest = 0 }

ties_over : (n : ℕ) (c : CellWidths) → is_over n c ≡ ties (λ x y. is_lt (nat_cmp (span_of x) (span_of y))) (over n) c
ties_over n c =
    let a = ranked (n - 0) (span_of c) (nat_cmp (n - 0) (span_of c)) refl in
    let b = ranked (span_of c) (n - 0) (nat_cmp (span_of c) (n - 0)) refl in
    grind (arith, nat_tests)

stable_over : (xs ys : List CellWidths) → IsStableByKey span_of nat_cmp xs ys → (n : ℕ) →
    filter (is_over n) ys ≡ filter (is_over n) xs
stable_over xs ys stable n =
    filter_agree (is_over n) (ties (λ x y. is_lt (nat_cmp (span_of x) (span_of y))) (over n)) (ties_over n) ys
    ∙ stable (over n)
    ∙ sym (filter_agree (is_over n) (ties (λ x y. is_lt (nat_cmp (span_of x) (span_of y))) (over n)) (ties_over n) xs)

not_spanning : (c : CellWidths) → is_spanning c ≡ false → span_of c < 2
not_spanning c e = grind (arith, nat_tests)

is_spanning_more : (c : CellWidths) → is_spanning c ≡ true → 2 ≤ span_of c
is_spanning_more c e = grind (arith, nat_tests)

spanning_over : (cells : List CellWidths) (n : ℕ) → 2 ≤ n →
    filter (is_over n) (filter is_spanning cells) ≡ filter (is_over n) cells
spanning_over [] n le = refl
spanning_over (c ∷ cells) n le = by (is_spanning c) refl (spanning_over cells n le)
  where
    by : (b : Bool) → is_spanning c ≡ b → filter (is_over n) (filter is_spanning cells) ≡ filter (is_over n) cells →
        filter (is_over n) (cond b (c ∷ filter is_spanning cells) (filter is_spanning cells))
        ≡ cond (is_over n c) (c ∷ filter (is_over n) cells) (filter (is_over n) cells)
    by true e rest = ap (λ (cs : List CellWidths). cond (is_over n c) (c ∷ cs) cs) rest
    by false e rest =
        let narrow = not_spanning c e in
        rest
        ∙ ap (λ (b : Bool). cond b (c ∷ filter (is_over n) cells) (filter (is_over n) cells))
        (sym (under_false n c (omega arith)))

pub spanning_sorted : (cells sorted : List CellWidths) → IsPermutation (filter is_spanning cells) sorted →
    IsStableByKey span_of nat_cmp (filter is_spanning cells) sorted → IsNonDecreasingBy span_of sorted → (count : ℕ) →
    All (λ c. span_of c ≤ count) cells → sorted ≡ by_spans 2 (count - 1) cells
spanning_sorted cells sorted moved stable rising count within =
    sym (in_turn 2 (count - 1) sorted (rises_at sorted rising)
    (recursion_from_All (λ c. 2 ≤ span_of c) sorted
    (All-permutation (λ c. 2 ≤ span_of c) (filter is_spanning cells) sorted moved
    (All-weaker (λ c. is_spanning c ≡ true) (λ c. 2 ≤ span_of c) is_spanning_more (filter is_spanning cells)
    (filter_passes is_spanning cells))))
    (recursion_from_All (λ c. span_of c < 2 + (count - 1)) sorted
    (All-permutation (λ c. span_of c < 2 + (count - 1)) (filter is_spanning cells) sorted moved
    (All-filter is_spanning (λ c. span_of c < 2 + (count - 1)) cells
    (λ k d lt. let le = within k d lt in omega arith)))))
    ∙ spans_agree 2 (count - 1) sorted cells
    (λ n le. stable_over (filter is_spanning cells) sorted stable n ∙ spanning_over cells n le)

-- ---- which cells these are

pub each_by_spans : (P : CellWidths → Type 0) (least many : ℕ) (cells : List CellWidths) → AllByRecursion P cells →
    AllByRecursion (λ c. (least ≤ span_of c) × P c) (by_spans least many cells)
each_by_spans P least zero cells h = tt
each_by_spans P least (suc many) cells h =
    each_append (λ c. (least ≤ span_of c) × P c) (filter (is_over least) cells) (by_spans (least + 1) many cells)
    (each_weaker (λ c. (is_over least c ≡ true) × P c) (λ c. (least ≤ span_of c) × P c)
    (λ c p. (let e = over_is least c p.0 in omega arith, p.1)) (filter (is_over least) cells)
    (each_filter (is_over least) P cells h))
    (each_weaker (λ c. (least + 1 ≤ span_of c) × P c) (λ c. (least ≤ span_of c) × P c)
    (λ c p. (let le = p.0 in omega arith, p.1)) (by_spans (least + 1) many cells)
    (each_by_spans P (least + 1) many cells h))

pub by_spans_each : (P : CellWidths → Type 0) (least many : ℕ) (cells : List CellWidths) →
    AllByRecursion P (by_spans least many cells) →
    AllByRecursion (λ c. least ≤ span_of c → span_of c < least + many → P c) cells
by_spans_each P least zero cells h =
    each_always (λ c. least ≤ span_of c → span_of c < least + 0 → P c) (λ c le lt. absurd (omega arith)) cells
by_spans_each P least (suc many) cells h =
    let both = append_each P (filter (is_over least) cells) (by_spans (least + 1) many cells) h in
    each_both (λ c. is_over least c ≡ true → P c) (λ c. least + 1 ≤ span_of c → span_of c < least + 1 + many → P c)
    (λ c. least ≤ span_of c → span_of c < least + suc many → P c)
    (λ c p q le lt. by c p q le lt (is_over least c) refl)
    cells (filter_each (is_over least) P cells both.0) (by_spans_each P (least + 1) many cells both.1)
  where
    by : (c : CellWidths) → (is_over least c ≡ true → P c) →
        (least + 1 ≤ span_of c → span_of c < least + 1 + many → P c) → least ≤ span_of c →
        span_of c < least + suc many → (b : Bool) → is_over least c ≡ b → P c
    by c p q le lt true e = p e
    by c p q le lt false e = let more = over_not least c e le in q (omega arith) (omega arith)

-- cells over one column come first
pub order_begins : (count : ℕ) (cells : List CellWidths) → AreWithin count cells →
    in_order count cells ≡ filter (is_over 1) cells ++ by_spans 2 (count - 1) cells
unfolding in_order
order_begins zero cells within =
    sym (ap (λ (front : List CellWidths). front ++ [])
    (none_each (is_over 1) cells (recursion_from_All (λ c. is_over 1 c ≡ false) cells
    (All-weaker (λ c. (c.first ≤ c.last) × (c.last ≤ 0)) (λ c. is_over 1 c ≡ false)
    (λ c p. under_false 1 c (let le = p.1 in omega arith)) cells within))))
order_begins (suc n) cells within =
    ap (λ (m : ℕ). filter (is_over 1) cells ++ by_spans 2 m cells) (omega arith)
