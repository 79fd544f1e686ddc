-- Which numbers are among others after a change of a list, and that they stay distinct.
use Rattle.std.proofs.Common.{◌≡◌, ◌⊎◌, ◌∙◌, [], ◌∷◌, ◌++◌, ◌==◌, if◌then◌else◌, Bool, List, eq-eqb, eqb-true, false}
use Rattle.std.proofs.Common.{inl, inr, refl, sym, true, ℕ}
use Rattle.tree_forest.specs.Changes.{left_out}
use Rattle.tree_forest.specs.Orders.{AreDistinct, IsIn}
use Rattle.tree_forest.specs.Places.{put_before}
use Rattle.tree_forest.proofs.Relations.{either}

pub in_append : (c : ℕ) (ms ns : List ℕ) → IsIn c (ms ++ ns) → IsIn c ms ⊎ IsIn c ns
in_append c [] ns i = inr i
in_append c (m ∷ ms) ns (inl e) = inl (inl e)
in_append c (m ∷ ms) ns (inr i) = either (λ h. inl (inr h)) (λ h. inr h) (in_append c ms ns i)

pub in_one : (c n : ℕ) → IsIn c (n ∷ []) → c ≡ n
in_one c n (inl e) = e
in_one c n (inr i) = absurd i

pub distinct_append : (ms ns : List ℕ) → AreDistinct ms → AreDistinct ns → ((c : ℕ) → IsIn c ms → ¬ (IsIn c ns)) →
    AreDistinct (ms ++ ns)
distinct_append [] ns d e apart = e
distinct_append (m ∷ ms) ns d e apart =
    (λ i. either d.0 (apart m (inl refl)) (in_append m ms ns i), distinct_append ms ns d.1 e (λ c i. apart c (inr i)))

pub distinct_one : (n : ℕ) → AreDistinct (n ∷ [])
distinct_one n = (λ i. i, tt)

put_step : (x s c n : ℕ) (ns rest : List ℕ) (b : Bool) → (n == s) ≡ b →
    (IsIn x rest → IsIn x ns ⊎ ((x ≡ c) × IsIn s ns)) →
    IsIn x (if b then c ∷ n ∷ ns else n ∷ rest) → IsIn x (n ∷ ns) ⊎ ((x ≡ c) × IsIn s (n ∷ ns))
put_step x s c n ns rest true e more (inl is) = inr (is, inl (sym (eqb-true n s e)))
put_step x s c n ns rest true e more (inr i) = inl i
put_step x s c n ns rest false e more (inl is) = inl (inl is)
put_step x s c n ns rest false e more (inr i) = either (λ h. inl (inr h)) (λ h. inr (h.0, inr h.1)) (more i)

pub in_put_before : (x s c : ℕ) (ns : List ℕ) → IsIn x (put_before s c ns) → IsIn x ns ⊎ ((x ≡ c) × IsIn s ns)
in_put_before x s c [] i = absurd i
in_put_before x s c (n ∷ ns) i = put_step x s c n ns (put_before s c ns) (n == s) refl (in_put_before x s c ns) i

distinct_put_step : (s c n : ℕ) (ns rest : List ℕ) (b : Bool) → ¬ (IsIn c (n ∷ ns)) → AreDistinct (n ∷ ns) →
    ¬ (IsIn n rest) → AreDistinct rest →
    AreDistinct (if b then c ∷ n ∷ ns else n ∷ rest)
distinct_put_step s c n ns rest true new old apart more = (new, old)
distinct_put_step s c n ns rest false new old apart more = (apart, more)

pub distinct_put_before : (s c : ℕ) (ns : List ℕ) → ¬ (IsIn c ns) → AreDistinct ns → AreDistinct (put_before s c ns)
distinct_put_before s c [] new d = tt
distinct_put_before s c (n ∷ ns) new d = distinct_put_step s c n ns (put_before s c ns) (n == s) new d
    (λ i. either d.0 (λ r. new (inl (sym r.0))) (in_put_before n s c ns i))
    (distinct_put_before s c ns (λ i. new (inr i)) d.1)

out_step : (x n m : ℕ) (ms rest : List ℕ) (b : Bool) → (m == n) ≡ b → (IsIn x rest → IsIn x ms × ¬ (x ≡ n)) →
    IsIn x (if b then rest else m ∷ rest) → IsIn x (m ∷ ms) × ¬ (x ≡ n)
out_step x n m ms rest true e more i = (inr (more i).0, (more i).1)
out_step x n m ms rest false e more (inl is) =
    (inl is, λ h. absurd (let k : (m == n) ≡ true = eq-eqb m n (sym is ∙ h) in cc))
out_step x n m ms rest false e more (inr i) = (inr (more i).0, (more i).1)

pub in_left_out : (x n : ℕ) (ms : List ℕ) → IsIn x (left_out n ms) → IsIn x ms × ¬ (x ≡ n)
in_left_out x n [] i = absurd i
in_left_out x n (m ∷ ms) i = out_step x n m ms (left_out n ms) (m == n) refl (in_left_out x n ms) i

distinct_out_step : (m : ℕ) (rest : List ℕ) (b : Bool) → ¬ (IsIn m rest) → AreDistinct rest →
    AreDistinct (if b then rest else m ∷ rest)
distinct_out_step m rest true apart more = more
distinct_out_step m rest false apart more = (apart, more)

pub distinct_left_out : (n : ℕ) (ms : List ℕ) → AreDistinct ms → AreDistinct (left_out n ms)
distinct_left_out n [] d = tt
distinct_left_out n (m ∷ ms) d =
    distinct_out_step m (left_out n ms) (m == n) (λ i. d.0 (in_left_out m n ms i).0) (distinct_left_out n ms d.1)
