-- What holds of each element of a list, or of some, by recursion on it; and of the elements that a filter keeps.
use Rattle.std.proofs.Common.{◌≡◌, ◌<◌, ◌⊎◌, [], ◌∷◌, Bool, List, arith, cond, false, filter, get_or, inl, inr, length}
use Rattle.std.proofs.Common.{map, refl, suc, true, zero, ℕ}
use Rattle.std.specs.List.{AllByRecursion, AllPairs}

-- some element is so
abbrev pub Has : {X : Type 0} → (X → Type 0) → List X → Type 0
Has P [] = ⊥
Has P (x ∷ xs) = P x ⊎ Has P xs

-- each two elements are so, in their order
abbrev pub Pairs : {X : Type 0} → (X → X → Type 0) → List X → Type 0
Pairs R [] = Unit {0}
Pairs R (x ∷ xs) = AllByRecursion (R x) xs × Pairs R xs

pub each_weaker : {X : Type 0} (P Q : X → Type 0) → ((x : X) → P x → Q x) → (xs : List X) → AllByRecursion P xs →
    AllByRecursion Q xs
each_weaker P Q by [] h = tt
each_weaker P Q by (x ∷ xs) h = (by x h.0, each_weaker P Q by xs h.1)

pub each_both : {X : Type 0} (P Q R : X → Type 0) → ((x : X) → P x → Q x → R x) → (xs : List X) →
    AllByRecursion P xs → AllByRecursion Q xs → AllByRecursion R xs
each_both P Q R by [] h k = tt
each_both P Q R by (x ∷ xs) h k = (by x h.0 k.0, each_both P Q R by xs h.1 k.1)

pub each_always : {X : Type 0} (P : X → Type 0) → ((x : X) → P x) → (xs : List X) → AllByRecursion P xs
each_always P by [] = tt
each_always P by (x ∷ xs) = (by x, each_always P by xs)

pub each_at : {X : Type 0} (P : X → Type 0) → (xs : List X) (d : X) →
    ((k : ℕ) → k < length xs → P (get_or xs k d)) → AllByRecursion P xs
each_at P [] d by = tt
each_at P (x ∷ xs) d by =
    (by zero (omega arith), each_at P xs d (λ k lt. by (suc k) (omega arith)))

pub has_weaker : {X : Type 0} (P Q : X → Type 0) → ((x : X) → P x → Q x) → (xs : List X) → Has P xs → Has Q xs
has_weaker P Q by [] h = h
has_weaker P Q by (x ∷ xs) (inl p) = inl (by x p)
has_weaker P Q by (x ∷ xs) (inr h) = inr (has_weaker P Q by xs h)

-- an element that is so is met by what holds of each
pub has_each : {X : Type 0} (P Q : X → Type 0) (R : Type 0) → ((x : X) → P x → Q x → R) → (xs : List X) →
    AllByRecursion P xs → Has Q xs → R
has_each P Q R by [] h k = absurd k
has_each P Q R by (x ∷ xs) h (inl q) = by x h.0 q
has_each P Q R by (x ∷ xs) h (inr k) = has_each P Q R by xs h.1 k

pub has_at : {X : Type 0} (P : X → Type 0) → (xs : List X) (k : ℕ) (d : X) → k < length xs → P (get_or xs k d) →
    Has P xs
has_at P [] k d lt h = absurd (omega arith)
has_at P (x ∷ xs) zero d lt h = inl h
has_at P (x ∷ xs) (suc k) d lt h = inr (has_at P xs k d (omega arith) h)

-- a place at which an element is so
pub record IsAt {X : Type 0} (P : X → Type 0) (xs : List X) (d : X) : Type 0 where
  pub place : ℕ
  pub lt : place < length xs
  pub holds : P (get_or xs place d)

pub at_has : {X : Type 0} (P : X → Type 0) → (xs : List X) (d : X) → Has P xs → IsAt P xs d
at_has P [] d h = absurd h
at_has P (x ∷ xs) d (inl p) = record { place = zero; lt = omega arith; holds = p }
at_has P (x ∷ xs) d (inr h) = further (at_has P xs d h)
  where
    further : IsAt P xs d → IsAt P (x ∷ xs) d
    further a = record { place = suc a.place; lt = (let lt = a.lt in omega arith); holds = a.holds }

-- some element passes a test, or none
pub some_or_none : {X : Type 0} (test : X → Bool) (xs : List X) →
    Has (λ x. test x ≡ true) xs ⊎ AllByRecursion (λ x. test x ≡ false) xs
some_or_none test [] = inr tt
some_or_none test (x ∷ xs) = by (test x) refl (some_or_none test xs)
  where
    by : (b : Bool) → test x ≡ b → Has (λ x. test x ≡ true) xs ⊎ AllByRecursion (λ x. test x ≡ false) xs →
        Has (λ x. test x ≡ true) (x ∷ xs) ⊎ AllByRecursion (λ x. test x ≡ false) (x ∷ xs)
    by true e rest = inl (inl e)
    by false e (inl h) = inl (inr h)
    by false e (inr h) = inr (e, h)

pub pairs_from : {X : Type 0} (R : X → X → Type 0) (xs : List X) → AllPairs R xs → Pairs R xs
pairs_from R [] h = tt
pairs_from R (x ∷ xs) h = (
  each_at (R x) xs x (λ k lt. h zero (suc k) x (omega arith) (omega arith)),
  pairs_from R xs (λ i j d lt j_lt. h (suc i) (suc j) d (omega arith) (omega arith)),
)

-- ---- what a filter keeps
module _ {X Y : Type 0} (f : X → Y) (test : X → Bool) where
  pub each_kept : (P : Y → Type 0) (xs : List X) → AllByRecursion (λ x. test x ≡ true → P (f x)) xs →
      AllByRecursion P (map f (filter test xs))
  each_kept P [] h = tt
  each_kept P (x ∷ xs) h = by (test x) h.0 (each_kept P xs h.1)
    where
      by : (b : Bool) → (b ≡ true → P (f x)) → AllByRecursion P (map f (filter test xs)) →
          AllByRecursion P (map f (cond b (x ∷ filter test xs) (filter test xs)))
      by true here rest = (here refl, rest)
      by false here rest = rest

  pub has_kept : (P : Y → Type 0) (xs : List X) → Has (λ x. (test x ≡ true) × P (f x)) xs →
      Has P (map f (filter test xs))
  has_kept P [] h = h
  has_kept P (x ∷ xs) (inl h) = by (test x) h.0
    where
      by : (b : Bool) → b ≡ true → Has P (map f (cond b (x ∷ filter test xs) (filter test xs)))
      by true e = inl h.1
      by false e = absurd (cc)
  has_kept P (x ∷ xs) (inr h) = by (test x) (has_kept P xs h)
    where
      by : (b : Bool) → Has P (map f (filter test xs)) →
          Has P (map f (cond b (x ∷ filter test xs) (filter test xs)))
      by true rest = inr rest
      by false rest = rest

  pub kept_has : (P : Y → Type 0) (xs : List X) → Has P (map f (filter test xs)) →
      Has (λ x. (test x ≡ true) × P (f x)) xs
  kept_has P [] h = h
  kept_has P (x ∷ xs) h = by (test x) refl (λ k. kept_has P xs k) h
    where
      by : (b : Bool) → test x ≡ b →
          (Has P (map f (filter test xs)) → Has (λ x. (test x ≡ true) × P (f x)) xs) →
          Has P (map f (cond b (x ∷ filter test xs) (filter test xs))) →
          Has (λ x. (test x ≡ true) × P (f x)) (x ∷ xs)
      by true e further (inl p) = inl (e, p)
      by true e further (inr k) = inr (further k)
      by false e further k = inr (further k)

  pub pairs_kept : (R : Y → Y → Type 0) (xs : List X) →
      Pairs (λ x y. test x ≡ true → test y ≡ true → R (f x) (f y)) xs → Pairs R (map f (filter test xs))
  pairs_kept R [] h = tt
  pairs_kept R (x ∷ xs) h = by (test x) h.0 (pairs_kept R xs h.1)
    where
      by : (b : Bool) → AllByRecursion (λ y. b ≡ true → test y ≡ true → R (f x) (f y)) xs →
          Pairs R (map f (filter test xs)) → Pairs R (map f (cond b (x ∷ filter test xs) (filter test xs)))
      by true here rest = (
        each_kept (λ y. R (f x) y) xs
            (each_weaker (λ y. true ≡ true → test y ≡ true → R (f x) (f y)) (λ y. test y ≡ true → R (f x) (f y))
            (λ y h. h refl) xs here),
        rest,
      )
      by false here rest = rest
