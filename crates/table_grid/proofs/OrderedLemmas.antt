-- Two lists in order with the same elements are one.
use Rattle.std.proofs.Common.{◌≡◌, ◌<◌, [], ◌∷◌, ◌⊎◌, ◌∙◌, Contains, List, ap, arith, get_or, inl, inr, length, refl}
use Rattle.std.proofs.Common.{subst, suc, sym, zero, ℕ}
use Rattle.std.specs.List.{AllPairs}

pub contains_here : {X : Type 0} (x : X) (xs : List X) → Contains (x ∷ xs) x
contains_here x xs = (zero, omega arith, refl)

pub contains_there : {X : Type 0} (x z : X) (xs : List X) → Contains xs z → Contains (x ∷ xs) z
contains_there x z xs h = (suc h.0, (let lt = h.1 in omega arith), h.2)

cases_at : {X : Type 0} (x z : X) (xs : List X) (k : ℕ) → k < length (x ∷ xs) → get_or (x ∷ xs) k z ≡ z →
    (x ≡ z) ⊎ Contains xs z
cases_at x z xs zero lt e = inl e
cases_at x z xs (suc k) lt e = inr (k, omega arith, e)

pub contains_cases : {X : Type 0} (x z : X) (xs : List X) → Contains (x ∷ xs) z → (x ≡ z) ⊎ Contains xs z
contains_cases x z xs h = cases_at x z xs h.0 h.1 h.2

module _ {X : Type 0} (R : X → X → Type 0) (one_way : (x y : X) → R x y → R y x → ⊥) where
  head_first : (x : X) (xs : List X) → AllPairs R (x ∷ xs) → (z : X) → Contains xs z → R x z
  head_first x xs h z c = subst (R x) (c.2) (h zero (suc c.0) z (omega arith) (let lt = c.1 in omega arith))

  tail_order : (x : X) (xs : List X) → AllPairs R (x ∷ xs) → AllPairs R xs
  tail_order x xs h i j d lt j_lt = h (suc i) (suc j) d (omega arith) (omega arith)

  same_head : (x y : X) (xs ys : List X) → AllPairs R (x ∷ xs) → AllPairs R (y ∷ ys) → (y ≡ x) ⊎ Contains ys x →
      (x ≡ y) ⊎ Contains xs y → x ≡ y
  same_head x y xs ys hx hy (inl e) b = sym e
  same_head x y xs ys hx hy (inr c) (inl e) = e
  same_head x y xs ys hx hy (inr c) (inr d) = absurd (one_way x y (head_first x xs hx y d) (head_first y ys hy x c))

  in_tail : (x y z : X) (xs ys : List X) → AllPairs R (x ∷ xs) → x ≡ y → Contains xs z → (y ≡ z) ⊎ Contains ys z →
      Contains ys z
  in_tail x y z xs ys hx same c (inr d) = d
  in_tail x y z xs ys hx same c (inl e) =
      let r : R x z = head_first x xs hx z c in
      let s : R x x = subst (R x) (sym (same ∙ e)) r in
      absurd (one_way x x s s)

  pub same_ordered : (xs ys : List X) → AllPairs R xs → AllPairs R ys → ((z : X) → Contains xs z → Contains ys z) →
      ((z : X) → Contains ys z → Contains xs z) → xs ≡ ys
  same_ordered [] [] hx hy to back = refl
  same_ordered [] (y ∷ ys) hx hy to back = let c = (back y (contains_here y ys)).1 in absurd (omega arith)
  same_ordered (x ∷ xs) [] hx hy to back = let c = (to x (contains_here x xs)).1 in absurd (omega arith)
  same_ordered (x ∷ xs) (y ∷ ys) hx hy to back =
      let same : x ≡ y = same_head x y xs ys hx hy (contains_cases y x ys (to x (contains_here x xs)))
      (contains_cases x y xs (back y (contains_here y ys))) in
      let rest : xs ≡ ys = same_ordered xs ys (tail_order x xs hx) (tail_order y ys hy)
      (λ z c. in_tail x y z xs ys hx same c (contains_cases y z ys (to z (contains_there x z xs c))))
      (λ z c. in_tail y x z ys xs hy (sym same) c (contains_cases x z xs (back z (contains_there y z ys c)))) in
      ap (λ (w : X). w ∷ xs) same ∙ ap (λ (ws : List X). y ∷ ws) rest
