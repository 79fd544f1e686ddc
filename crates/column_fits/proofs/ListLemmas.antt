-- Lists of which each number is at least that of another list.
use Rattle.std.proofs.Common.{◌≡◌, ◌+◌, ◌-◌, ◌<◌, ◌≤◌, ◌∙◌, [], ◌∷◌, ◌++◌, All, List, ap, arith, drop, get_or, length}
use Rattle.std.proofs.Common.{map, refl}
use Rattle.std.proofs.Common.{subst, suc, sum, sym, take, zero, ℕ}
use Rattle.std.proofs.lemmas.List.{append_assoc, drop-drop, drop-map, drop_at, length-take}
use Rattle.std.proofs.lemmas.List.{take-append-drop, take-map, take_at}
use Rattle.std.proofs.lemmas.List.Elements.{All-drop, All-take}
use Rattle.std.proofs.lemmas.List.Sums.{get_or-le-sum_by, sum_by-cons}
use Rattle.column_fits.specs.Fits.{covered, parts, span_of, taken}
use Rattle.column_fits.specs.Laws.{AreAtLeast}
use Rattle.column_fits.specs.declared.cell.CellWidths.{CellWidths}
use Rattle.column_fits.proofs.PartLemmas.{length-parts_of, sum-parts}
use Rattle.column_fits.proofs.WidenLemmas.{length-covered}

-- ---- at least

pub at_least_refl : (xs : List ℕ) → AreAtLeast xs xs
at_least_refl [] = tt
at_least_refl (x ∷ xs) = (omega arith, at_least_refl xs)

pub at_least_trans : (xs ys zs : List ℕ) → AreAtLeast xs ys → AreAtLeast ys zs → AreAtLeast xs zs
at_least_trans [] [] [] h k = tt
at_least_trans [] [] (z ∷ zs) h k = k
at_least_trans [] (y ∷ ys) zs h k = absurd h
at_least_trans (x ∷ xs) [] zs h k = absurd h
at_least_trans (x ∷ xs) (y ∷ ys) [] h k = absurd k
at_least_trans (x ∷ xs) (y ∷ ys) (z ∷ zs) h k =
    (let a = h.0 in let b = k.0 in omega arith, at_least_trans xs ys zs h.1 k.1)

pub at_least_append : (xs ys us vs : List ℕ) → AreAtLeast xs ys → AreAtLeast us vs → AreAtLeast (xs ++ us) (ys ++ vs)
at_least_append [] [] us vs h k = k
at_least_append [] (y ∷ ys) us vs h k = absurd h
at_least_append (x ∷ xs) [] us vs h k = absurd h
at_least_append (x ∷ xs) (y ∷ ys) us vs h k = (h.0, at_least_append xs ys us vs h.1 k)

pub at_least_take : (n : ℕ) (xs ys : List ℕ) → AreAtLeast xs ys → AreAtLeast (take n xs) (take n ys)
at_least_take zero [] [] h = tt
at_least_take zero [] (y ∷ ys) h = tt
at_least_take zero (x ∷ xs) [] h = tt
at_least_take zero (x ∷ xs) (y ∷ ys) h = tt
at_least_take (suc n) [] [] h = tt
at_least_take (suc n) [] (y ∷ ys) h = absurd h
at_least_take (suc n) (x ∷ xs) [] h = absurd h
at_least_take (suc n) (x ∷ xs) (y ∷ ys) h = (h.0, at_least_take n xs ys h.1)

pub at_least_drop : (n : ℕ) (xs ys : List ℕ) → AreAtLeast xs ys → AreAtLeast (drop n xs) (drop n ys)
at_least_drop zero xs ys h = h
at_least_drop (suc n) [] [] h = tt
at_least_drop (suc n) [] (y ∷ ys) h = absurd h
at_least_drop (suc n) (x ∷ xs) [] h = absurd h
at_least_drop (suc n) (x ∷ xs) (y ∷ ys) h = at_least_drop n xs ys h.1

pub at_least_length : (xs ys : List ℕ) → AreAtLeast xs ys → length xs ≡ length ys
at_least_length [] [] h = refl
at_least_length [] (y ∷ ys) h = absurd h
at_least_length (x ∷ xs) [] h = absurd h
at_least_length (x ∷ xs) (y ∷ ys) h = let r = at_least_length xs ys h.1 in omega arith

pub at_least_sum : (xs ys : List ℕ) → AreAtLeast xs ys → sum xs ≤ sum ys
at_least_sum [] [] h = omega arith
at_least_sum [] (y ∷ ys) h = absurd h
at_least_sum (x ∷ xs) [] h = absurd h
at_least_sum (x ∷ xs) (y ∷ ys) h =
    let r = at_least_sum xs ys h.1 in
    let le = h.0 in
    let a = sum_by-cons (λ (n : ℕ). n) x xs in let b = sum_by-cons (λ (n : ℕ). n) y ys in omega arith

pub at_least_at : (xs ys : List ℕ) → AreAtLeast xs ys → (i : ℕ) → i < length xs → get_or xs i 0 ≤ get_or ys i 0
at_least_at [] ys h i lt = absurd (omega arith)
at_least_at (x ∷ xs) [] h i lt = absurd h
at_least_at (x ∷ xs) (y ∷ ys) h zero lt = h.0
at_least_at (x ∷ xs) (y ∷ ys) h (suc i) lt = at_least_at xs ys h.1 i (omega arith)

pub at_least_from : (xs ys : List ℕ) → length xs ≡ length ys →
    ((i : ℕ) → i < length xs → get_or xs i 0 ≤ get_or ys i 0) → AreAtLeast xs ys
at_least_from [] [] e h = tt
at_least_from [] (y ∷ ys) e h = absurd (omega arith)
at_least_from (x ∷ xs) [] e h = absurd (omega arith)
at_least_from (x ∷ xs) (y ∷ ys) e h =
    (h zero (omega arith), at_least_from xs ys (omega arith) (λ i lt. h (suc i) (omega arith)))

-- the columns of a cell take no less
pub covered_more : (c : CellWidths) (xs ys : List ℕ) → AreAtLeast xs ys → taken (covered c xs) ≤ taken (covered c ys)
covered_more c xs ys h =
    let k = at_least_take (span_of c) (drop c.first xs) (drop c.first ys) (at_least_drop c.first xs ys h) in
    let s = at_least_sum (covered c xs) (covered c ys) k in
    let n = at_least_length (covered c xs) (covered c ys) k in
    omega arith

-- ---- so much more each

abbrev pub added : List ℕ → List ℕ → List ℕ
added [] ps = []
added (x ∷ xs) [] = []
added (x ∷ xs) (p ∷ ps) = (x + p) ∷ added xs ps

length-added : (xs ps : List ℕ) → length ps ≡ length xs → length (added xs ps) ≡ length xs
length-added [] ps e = refl
length-added (x ∷ xs) [] e = absurd (omega arith)
length-added (x ∷ xs) (p ∷ ps) e = let r = length-added xs ps (omega arith) in omega arith

at_least_added : (xs ps : List ℕ) → length ps ≡ length xs → AreAtLeast xs (added xs ps)
at_least_added [] ps e = tt
at_least_added (x ∷ xs) [] e = absurd (omega arith)
at_least_added (x ∷ xs) (p ∷ ps) e = (omega arith, at_least_added xs ps (omega arith))

sum-added : (xs ps : List ℕ) → length ps ≡ length xs → sum (added xs ps) ≡ sum xs + sum ps
sum-added [] [] e = omega arith
sum-added [] (p ∷ ps) e = absurd (omega arith)
sum-added (x ∷ xs) [] e = absurd (omega arith)
sum-added (x ∷ xs) (p ∷ ps) e =
    let r = sum-added xs ps (omega arith) in
    let a = sum_by-cons (λ (n : ℕ). n) x xs in
    let b = sum_by-cons (λ (n : ℕ). n) p ps in
    let d = sum_by-cons (λ (n : ℕ). n) (x + p) (added xs ps) in
    omega arith

-- ---- what a cell makes of the widths of columns, by their weights

-- what is lacking of what the cell asks for
abbrev pub lacking : CellWidths → (wanted : ℕ) → List ℕ → ℕ
lacking c wanted xs = wanted - taken (covered c xs)

abbrev pub spread_over : CellWidths → (wanted : ℕ) → (xs weights : List ℕ) → List ℕ
spread_over c wanted xs weights = added (covered c xs) (parts (lacking c wanted xs) (covered c weights))

abbrev pub spread : CellWidths → (wanted : ℕ) → (xs weights : List ℕ) → List ℕ
spread c wanted xs weights = take c.first xs ++ spread_over c wanted xs weights ++ drop c.last xs

length-shares : (c : CellWidths) (lack : ℕ) (xs weights : List ℕ) → c.first ≤ c.last → c.last ≤ length xs →
    length weights ≡ length xs → length (parts lack (covered c weights)) ≡ length (covered c xs)
length-shares c lack xs weights le lt e =
    let a = length-covered c xs le lt in
    let b = length-covered c weights le (omega arith) in
    let d = length-parts_of lack (sum (covered c weights)) lack (covered c weights) in
    omega arith

split : (c : CellWidths) (xs : List ℕ) → c.first ≤ c.last → take c.first xs ++ covered c xs ++ drop c.last xs ≡ xs
split c xs le =
    let last : c.first + (c.last - c.first) ≡ c.last = omega arith in
    append_assoc (take c.first xs) (covered c xs) (drop c.last xs)
    ∙ ap (λ (rest : List ℕ). take c.first xs ++ (covered c xs ++ rest))
    (sym (drop-drop (c.last - c.first) c.first xs ∙ ap (λ (n : ℕ). drop n xs) last))
    ∙ ap (λ (rest : List ℕ). take c.first xs ++ rest) (take-append-drop (c.last - c.first) (drop c.first xs))
    ∙ take-append-drop c.first xs

pub at_least_spread : (c : CellWidths) (wanted : ℕ) (xs weights : List ℕ) → c.first ≤ c.last → c.last ≤ length xs →
    length weights ≡ length xs → AreAtLeast xs (spread c wanted xs weights)
at_least_spread c wanted xs weights le lt e =
    subst (λ (ys : List ℕ). AreAtLeast ys (spread c wanted xs weights)) (split c xs le)
    (at_least_append (take c.first xs ++ covered c xs) (take c.first xs ++ spread_over c wanted xs weights)
    (drop c.last xs) (drop c.last xs)
    (at_least_append (take c.first xs) (take c.first xs) (covered c xs) (spread_over c wanted xs weights)
    (at_least_refl (take c.first xs))
    (at_least_added (covered c xs) (parts (lacking c wanted xs) (covered c weights))
    (length-shares c (lacking c wanted xs) xs weights le lt e)))
    (at_least_refl (drop c.last xs)))

covered_spread : (c : CellWidths) (wanted : ℕ) (xs weights : List ℕ) → c.first ≤ c.last → c.last ≤ length xs →
    length weights ≡ length xs → covered c (spread c wanted xs weights) ≡ spread_over c wanted xs weights
covered_spread c wanted xs weights le lt e =
    let n = length-take c.first xs in
    let a = length-covered c xs le lt in
    let b = length-added (covered c xs) (parts (lacking c wanted xs) (covered c weights))
    (length-shares c (lacking c wanted xs) xs weights le lt e) in
    ap (covered c) (append_assoc (take c.first xs) (spread_over c wanted xs weights) (drop c.last xs))
    ∙ ap (take (c.last - c.first))
    (drop_at (take c.first xs) (spread_over c wanted xs weights ++ drop c.last xs) c.first (omega arith))
    ∙ take_at (spread_over c wanted xs weights) (drop c.last xs) (c.last - c.first) (omega arith)

some_sum : (ws : List ℕ) → 0 < length ws → All (λ (w : ℕ). 1 ≤ w) ws → 0 < sum ws
some_sum ws lt each = let a = get_or-le-sum_by (λ (w : ℕ). w) ws 0 0 lt in let b = each 0 0 lt in omega arith

pub has_spread : (c : CellWidths) (wanted : ℕ) (xs weights : List ℕ) → c.first < c.last → c.last ≤ length xs →
    length weights ≡ length xs → All (λ (w : ℕ). 1 ≤ w) weights →
    wanted ≤ taken (covered c (spread c wanted xs weights))
has_spread c wanted xs weights some lt e each =
    let lack : ℕ = lacking c wanted xs in
    let n = length-covered c xs (omega arith) lt in
    let m = length-covered c weights (omega arith) (omega arith) in
    let shares = length-shares c (lacking c wanted xs) xs weights (omega arith) lt e in
    let a = length-added (covered c xs) (parts (lacking c wanted xs) (covered c weights)) shares in
    let s = sum-added (covered c xs) (parts (lacking c wanted xs) (covered c weights)) shares in
    let p = sum-parts (lacking c wanted xs) (covered c weights)
    (some_sum (covered c weights) (omega arith)
    (All-take (λ (w : ℕ). 1 ≤ w) (c.last - c.first) (drop c.first weights)
    (All-drop (λ (w : ℕ). 1 ≤ w) c.first weights each))) (omega arith) in
    rw (covered_spread c wanted xs weights (omega arith) lt e) (omega arith)

pub covered_map : {A : Type 0} (part : A → ℕ) (c : CellWidths) (xs : List A) →
    covered c (map part xs) ≡ map part (covered c xs)
covered_map part c xs =
    ap (take (c.last - c.first)) (drop-map part c.first xs) ∙ take-map part (c.last - c.first) (drop c.first xs)
