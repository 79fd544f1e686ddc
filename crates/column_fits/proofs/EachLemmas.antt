-- What holds of each element of a list, by recursion on it.
use Rattle.std.proofs.Common.{◌≡◌, [], ◌∷◌, ◌++◌, ◌∙◌, Bool, List, ap, cond, false, filter, refl}
use Rattle.std.proofs.Common.{true}
use Rattle.std.specs.List.{AllByRecursion}

pub each_weaker : {X : Type 0} (P Q : X → Type 0) → ((x : X) → P x → Q x) → (xs : List X) → AllByRecursion P xs →
    AllByRecursion Q xs
each_weaker P Q by [] h = tt
each_weaker P Q by (x ∷ xs) h = (by x h.0, each_weaker P Q by xs h.1)

pub each_both : {X : Type 0} (P Q R : X → Type 0) → ((x : X) → P x → Q x → R x) → (xs : List X) →
    AllByRecursion P xs → AllByRecursion Q xs → AllByRecursion R xs
each_both P Q R by [] h k = tt
each_both P Q R by (x ∷ xs) h k = (by x h.0 k.0, each_both P Q R by xs h.1 k.1)

pub each_always : {X : Type 0} (P : X → Type 0) → ((x : X) → P x) → (xs : List X) → AllByRecursion P xs
each_always P by [] = tt
each_always P by (x ∷ xs) = (by x, each_always P by xs)

pub each_append : {X : Type 0} (P : X → Type 0) → (xs ys : List X) → AllByRecursion P xs → AllByRecursion P ys →
    AllByRecursion P (xs ++ ys)
each_append P [] ys h k = k
each_append P (x ∷ xs) ys h k = (h.0, each_append P xs ys h.1 k)

pub append_each : {X : Type 0} (P : X → Type 0) → (xs ys : List X) → AllByRecursion P (xs ++ ys) →
    AllByRecursion P xs × AllByRecursion P ys
append_each P [] ys h = (tt, h)
append_each P (x ∷ xs) ys h = let r = append_each P xs ys h.1 in ((h.0, r.0), r.1)

false_true : (b : Bool) → b ≡ false → b ≡ true → ⊥
false_true b e f = cc

-- what a filter keeps passes its test
pub each_filter : {X : Type 0} (test : X → Bool) (P : X → Type 0) → (xs : List X) → AllByRecursion P xs →
    AllByRecursion (λ x. (test x ≡ true) × P x) (filter test xs)
each_filter test P [] h = tt
each_filter test P (x ∷ xs) h = by (test x) refl (each_filter test P xs h.1)
  where
    by : (b : Bool) → test x ≡ b → AllByRecursion (λ x. (test x ≡ true) × P x) (filter test xs) →
        AllByRecursion (λ x. (test x ≡ true) × P x) (cond b (x ∷ filter test xs) (filter test xs))
    by true e rest = ((e, h.0), rest)
    by false e rest = rest

-- so what holds of each that it keeps holds of each that passes
pub filter_each : {X : Type 0} (test : X → Bool) (P : X → Type 0) → (xs : List X) →
    AllByRecursion P (filter test xs) → AllByRecursion (λ x. test x ≡ true → P x) xs
filter_each test P [] h = tt
filter_each test P (x ∷ xs) h = by (test x) refl h (λ k. filter_each test P xs k)
  where
    by : (b : Bool) → test x ≡ b → AllByRecursion P (cond b (x ∷ filter test xs) (filter test xs)) →
        (AllByRecursion P (filter test xs) → AllByRecursion (λ x. test x ≡ true → P x) xs) →
        AllByRecursion (λ x. test x ≡ true → P x) (x ∷ xs)
    by true e k further = ((λ t. k.0), further k.1)
    by false e k further = ((λ t. absurd (false_true (test x) e t)), further k)

pub none_each : {X : Type 0} (test : X → Bool) → (xs : List X) → AllByRecursion (λ x. test x ≡ false) xs →
    filter test xs ≡ []
none_each test [] h = refl
none_each test (x ∷ xs) h =
    ap (λ (b : Bool). cond b (x ∷ filter test xs) (filter test xs)) h.0 ∙ none_each test xs h.1
