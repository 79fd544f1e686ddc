-- Numbers below a bound that pass a test, and lists joined end to end.
use Rattle.std.proofs.Common.{◌≡◌, ◌<◌, [], ◌∷◌, ◌++◌, ◌⊎◌, ◌∙◌, All, Bool, Contains, List, ap, arith, cond, false}
use Rattle.std.proofs.Common.{get_or, inl, inr, length, map, refl, subst, suc, sym, true, zero, ℕ}
use Rattle.std.specs.List.{AllPairs, filter, flat_map, range_with_len}
use Rattle.std.proofs.lemmas.List.{get_or-map, length-map}
use Rattle.std.proofs.lemmas.List.Elements.{All-append, All-head, All-nil, All-tail, Contains-append_left}
use Rattle.std.proofs.lemmas.List.Elements.{Contains-append_right}
use Rattle.std.proofs.lemmas.List.FromFn.{length-range_with_len, get_or-range_with_len}
use Rattle.std.proofs.lemmas.List.Kept.{AllPairs-filter}
use Rattle.table_grid.proofs.GapLemmas.{pairs_append}
use Rattle.table_grid.proofs.OrderedLemmas.{contains_here, contains_there, contains_cases}
use Rattle.table_grid.proofs.PlacingLemmas.{clash}

contains_filter : {X : Type 0} (p : X → Bool) (xs : List X) (x : X) → Contains xs x → p x ≡ true →
    Contains (filter p xs) x
contains_filter p [] x h e = h
contains_filter {X = X} p (y ∷ ys) x h e =
    by (p y) refl (contains_cases y x ys h) (λ c. contains_filter p ys x c e)
  where
    by : (b : Bool) → p y ≡ b → (y ≡ x) ⊎ Contains ys x → (Contains ys x → Contains (filter p ys) x) →
        Contains (cond b (y ∷ filter p ys) (filter p ys)) x
    by true f (inl same) rest = subst (λ (z : X). Contains (z ∷ filter p ys) x) (sym same)
        (contains_here x (filter p ys))
    by true f (inr c) rest = contains_there y x (filter p ys) (rest c)
    by false f (inl same) rest = absurd (clash (p y) f (ap p same ∙ e))
    by false f (inr c) rest = rest c

pub contains_map : {X Y : Type 0} (f : X → Y) (xs : List X) (x : X) → Contains xs x → Contains (map f xs) (f x)
contains_map f xs x h =
    (h.0, (let n = length-map xs f in let lt = h.1 in omega arith), get_or-map f xs h.0 x (f x) h.1 ∙ ap f h.2)

pub map_pairs : {X Y : Type 0} (R : Y → Y → Type 0) (f : X → Y) (xs : List X) (e : X) →
    AllPairs (λ x y. R (f x) (f y)) xs → AllPairs R (map f xs)
map_pairs R f xs e h i j d lt j_lt =
    let n = length-map xs f in
    rw (get_or-map f xs i e d (omega arith), get_or-map f xs j e d (omega arith)) (h i j e lt (omega arith))

range_rises : (n : ℕ) → AllPairs (λ x y. x < y) (range_with_len 0 n)
range_rises n i j d lt j_lt =
    let len = length-range_with_len 0 n in
    let a = get_or-range_with_len 0 n i d (omega arith) in let b = get_or-range_with_len 0 n j d (omega arith) in
    omega arith

pub numbers_rise : (p : ℕ → Bool) (n : ℕ) → AllPairs (λ x y. x < y) (filter p (range_with_len 0 n))
numbers_rise p n = AllPairs-filter (λ x y. x < y) p (range_with_len 0 n) (range_rises n)

pub number_in : (p : ℕ → Bool) (n x : ℕ) → x < n → p x ≡ true → Contains (filter p (range_with_len 0 n)) x
number_in p n x lt e = contains_filter p (range_with_len 0 n) x (
  x,
  (let len = length-range_with_len 0 n in omega arith),
  (let a = get_or-range_with_len 0 n x x lt in omega arith),
) e

module _ {X : Type 0} (f : ℕ → List X) where
  pub flat_each : (P : X → Type 0) (rs : List ℕ) → All (λ r. All P (f r)) rs → All P (flat_map f rs)
  flat_each P [] h = All-nil P
  flat_each P (r ∷ rs) h = All-append P (f r) (flat_map f rs) (All-head (λ (s : ℕ). All P (f s)) r rs h)
      (flat_each P rs (All-tail (λ (s : ℕ). All P (f s)) r rs h))

  pub flat_pairs : (R : X → X → Type 0) (rs : List ℕ) → ((r : ℕ) → AllPairs R (f r)) →
      ((r s i j : ℕ) (d e : X) → r < s → i < length (f r) → j < length (f s) →
      R (get_or (f r) i d) (get_or (f s) j e)) → AllPairs (λ r s. r < s) rs → AllPairs R (flat_map f rs)
  flat_pairs R [] own cross rising = λ i j d lt j_lt. absurd (omega arith)
  flat_pairs R (r ∷ rs) own cross rising =
      pairs_append R (f r) (flat_map f rs) (own r)
      (flat_pairs R rs own cross (λ i j d lt j_lt. rising (suc i) (suc j) d (omega arith) (omega arith)))
      (λ i j d i_lt j_lt. flat_each (R (get_or (f r) i d)) rs
      (λ k n k_lt m e m_lt. cross r (get_or rs k n) i m d e (rising zero (suc k) n (omega arith) (omega arith)) i_lt
      m_lt) j d j_lt)

  pub flat_contains : (rs : List ℕ) (r : ℕ) (x : X) → Contains rs r → Contains (f r) x → Contains (flat_map f rs) x
  flat_contains [] r x h c = let lt = h.1 in absurd (omega arith)
  flat_contains (s ∷ rs) r x h c = by (contains_cases s r rs h) (λ rest. flat_contains rs r x rest c)
    where
      by : (s ≡ r) ⊎ Contains rs r → (Contains rs r → Contains (flat_map f rs) x) → Contains (f s ++ flat_map f rs) x
      by (inl same) rest = Contains-append_left (f s) (flat_map f rs) x
          (subst (λ (n : ℕ). Contains (f n) x) (sym same) c)
      by (inr there) rest = Contains-append_right (f s) (flat_map f rs) x (rest there)
