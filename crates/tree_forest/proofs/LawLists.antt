-- Numbers in a list: whether one is there, one that is put before another, and one that is left out.
use Rattle.std.proofs.Common.{◌≡◌, ◌==◌, if◌then◌else◌, ◌⊎◌, [], ◌∷◌, ◌++◌, ◌∙◌, Bool, List, Some, ap, false, inl, inr}
use Rattle.std.proofs.Common.{refl, subst, sym, true, ℕ}
use Rattle.std.proofs.lemmas.Bool.{cases_eq, eq-eqb, ne_eqb}
use Rattle.tree_forest.specs.Changes.{left_out}
use Rattle.tree_forest.specs.Forest.{is_in}
use Rattle.tree_forest.specs.Orders.{AreDistinct, IsIn}
use Rattle.tree_forest.specs.Places.{last_of, one_before, put_before}

-- a test of two numbers that are known to be equal, or not to be
pub chosen_at : {X : Type 0} (m n : ℕ) (x y : X) → m ≡ n → (if m == n then x else y) ≡ x
chosen_at m n x y e = ap (λ b. if b then x else y) (eq-eqb m n e)

pub chosen_off : {X : Type 0} (m n : ℕ) (x y : X) → ¬ (m ≡ n) → (if m == n then x else y) ≡ y
chosen_off m n x y h = ap (λ b. if b then x else y) (ne_eqb m n h)

-- whether a number is there
either_true : (a b : Bool) → b ≡ true → (if a then true else b) ≡ true
either_true true b h = refl
either_true false b h = h

pub is_in_true : (n : ℕ) (ms : List ℕ) → IsIn n ms → is_in n ms ≡ true
is_in_true n [] h = absurd h
is_in_true n (m ∷ ms) (inl e) = chosen_at n m true (is_in n ms) e
is_in_true n (m ∷ ms) (inr i) = either_true (n == m) (is_in n ms) (is_in_true n ms i)

pub is_in_false : (n : ℕ) (ms : List ℕ) → ¬ (IsIn n ms) → is_in n ms ≡ false
is_in_false n [] h = refl
is_in_false n (m ∷ ms) h = chosen_off n m true (is_in n ms) (λ e. h (inl e)) ∙ is_in_false n ms (λ i. h (inr i))

decided : (n m : ℕ) (ms : List ℕ) → (n ≡ m) ⊎ (n ≡ m → ⊥) → IsIn n ms ⊎ ¬ (IsIn n ms)
    → IsIn n (m ∷ ms) ⊎ ¬ (IsIn n (m ∷ ms))
decided n m ms (inl e) d = inl (inl e)
decided n m ms (inr off) (inl i) = inl (inr i)
decided n m ms (inr off) (inr out) = inr none where
  none : ¬ (IsIn n (m ∷ ms))
  none (inl e) = off e
  none (inr i) = out i

pub decide_in : (n : ℕ) (ms : List ℕ) → IsIn n ms ⊎ ¬ (IsIn n ms)
decide_in n [] = inr (λ h. h)
decide_in n (m ∷ ms) = decided n m ms (cases_eq n m) (decide_in n ms)

pub in_middle : (n : ℕ) (front rest : List ℕ) → IsIn n (front ++ n ∷ rest)
in_middle n [] rest = inl refl
in_middle n (m ∷ front) rest = inr (in_middle n front rest)

-- a number that is there stands after some and in front of others
pub record Standing (n : ℕ) (ms : List ℕ) : Type 0 where
  pub front : List ℕ
  pub rest : List ℕ
  pub whole : ms ≡ front ++ n ∷ rest

one_more : (n m : ℕ) (ms : List ℕ) → Standing n ms → Standing n (m ∷ ms)
one_more n m ms w = record { front = m ∷ w.front; rest = w.rest; whole = ap (λ l. m ∷ l) w.whole }

pub standing : (n : ℕ) (ms : List ℕ) → IsIn n ms → Standing n ms
standing n [] h = absurd h
standing n (m ∷ ms) (inl e) = record { front = []; rest = ms; whole = ap (λ k. k ∷ ms) (sym e) }
standing n (m ∷ ms) (inr i) = one_more n m ms (standing n ms i)

-- of distinct numbers none is in front of itself
pub not_in_front : (n : ℕ) (front rest : List ℕ) → AreDistinct (front ++ n ∷ rest) → ¬ (IsIn n front)
not_in_front n [] rest d h = h
not_in_front n (m ∷ front) rest d (inl e) = d.0 (subst (λ k. IsIn k (front ++ n ∷ rest)) e (in_middle n front rest))
not_in_front n (m ∷ front) rest d (inr i) = not_in_front n front rest d.1 i

-- a number that is put before another
pub put_before_at : (s c : ℕ) (front rest : List ℕ) → ¬ (IsIn s front)
    → put_before s c (front ++ s ∷ rest) ≡ front ++ c ∷ s ∷ rest
put_before_at s c [] rest h = chosen_at s s (c ∷ s ∷ rest) (s ∷ put_before s c rest) refl
put_before_at s c (m ∷ front) rest h =
    chosen_off m s (c ∷ m ∷ (front ++ s ∷ rest)) (m ∷ put_before s c (front ++ s ∷ rest)) (λ e. h (inl (sym e)))
    ∙ ap (λ l. m ∷ l) (put_before_at s c front rest (λ i. h (inr i)))

pub put_before_none : (s c : ℕ) (ns : List ℕ) → ¬ (IsIn s ns) → put_before s c ns ≡ ns
put_before_none s c [] h = refl
put_before_none s c (m ∷ ms) h = chosen_off m s (c ∷ m ∷ ms) (m ∷ put_before s c ms) (λ e. h (inl (sym e)))
    ∙ ap (λ l. m ∷ l) (put_before_none s c ms (λ i. h (inr i)))

-- the number right before another, and the last one
pub one_before_put : (s c : ℕ) (front rest : List ℕ) → ¬ (IsIn s front) → ¬ (c ≡ s)
    → one_before s (front ++ c ∷ s ∷ rest) ≡ Some c
one_before_put s c [] rest h off = chosen_at s s (Some c) (one_before s (s ∷ rest)) refl
one_before_put s c (m ∷ []) rest h off = chosen_off c s (Some m) (one_before s (c ∷ s ∷ rest)) off
    ∙ one_before_put s c [] rest (λ i. i) off
one_before_put s c (m ∷ k ∷ front) rest h off =
    chosen_off k s (Some m) (one_before s (k ∷ (front ++ c ∷ s ∷ rest))) (λ e. h (inr (inl (sym e))))
    ∙ one_before_put s c (k ∷ front) rest (λ i. h (inr i)) off

pub last_of_end : (ns : List ℕ) (c : ℕ) → last_of (ns ++ c ∷ []) ≡ Some c
last_of_end [] c = refl
last_of_end (n ∷ []) c = refl
last_of_end (n ∷ m ∷ ms) c = last_of_end (m ∷ ms) c

-- a number that is left out
pub left_out_none : (n : ℕ) (ms : List ℕ) → ¬ (IsIn n ms) → left_out n ms ≡ ms
left_out_none n [] h = refl
left_out_none n (m ∷ ms) h = chosen_off m n (left_out n ms) (m ∷ left_out n ms) (λ e. h (inl (sym e)))
    ∙ ap (λ l. m ∷ l) (left_out_none n ms (λ i. h (inr i)))

pub left_out_at : (n : ℕ) (front rest : List ℕ) → AreDistinct (front ++ n ∷ rest)
    → left_out n (front ++ n ∷ rest) ≡ front ++ rest
left_out_at n [] rest d = chosen_at n n (left_out n rest) (n ∷ left_out n rest) refl ∙ left_out_none n rest d.0
left_out_at n (m ∷ front) rest d =
    chosen_off m n (left_out n (front ++ n ∷ rest)) (m ∷ left_out n (front ++ n ∷ rest))
    (λ e. not_in_front n (m ∷ front) rest d (inl (sym e)))
    ∙ ap (λ l. m ∷ l) (left_out_at n front rest d.1)
