-- Which of two numbers stands nearer to the front of a list, and what changes of a list make of that.
use Rattle.std.proofs.Common.{◌≡◌, ◌⊎◌, ◌∙◌, [], ◌∷◌, ◌++◌, ◌==◌, if◌then◌else◌, Bool, List, eqb-true, false, inl, inr}
use Rattle.std.proofs.Common.{map, refl, subst, sym, true, ℕ}
use Rattle.std.proofs.lemmas.Bool.{cond_both, eqb-false}
use Rattle.tree_forest.specs.Changes.{left_out}
use Rattle.tree_forest.specs.Forest.{Forest}
use Rattle.tree_forest.specs.Orders.{Above, AreDistinct, IsIn, IsParent}
use Rattle.tree_forest.specs.Places.{put_before}
use Rattle.tree_model.specs.Adoption.{farther, nearer, replaced}
use Rattle.tree_model.specs.Orders.{AreInOrder}
use Rattle.tree_model.proofs.SoundLemmas.{either}

abbrev pub IsNearer : ℕ → ℕ → List ℕ → Type 0
IsNearer a b [] = ⊥
IsNearer a b (n ∷ ns) = ((a ≡ n) × IsIn b ns) ⊎ IsNearer a b ns

pub nearer_in : (a b : ℕ) (ns : List ℕ) → IsNearer a b ns → IsIn a ns
nearer_in a b [] h = absurd h
nearer_in a b (n ∷ ns) (inl h) = inl h.0
nearer_in a b (n ∷ ns) (inr h) = inr (nearer_in a b ns h)

pub farther_in : (a b : ℕ) (ns : List ℕ) → IsNearer a b ns → IsIn b ns
farther_in a b [] h = absurd h
farther_in a b (n ∷ ns) (inl h) = inr h.1
farther_in a b (n ∷ ns) (inr h) = inr (farther_in a b ns h)

-- distinctness and order by it
pub distinct_by : (ns : List ℕ) → ((a : ℕ) → ¬ (IsNearer a a ns)) → AreDistinct ns
distinct_by [] none = tt
distinct_by (n ∷ ns) none = ((λ i. none n (inl (refl, i))), distinct_by ns (λ a h. none a (inr h)))

pub not_twice : (a : ℕ) (ns : List ℕ) → AreDistinct ns → ¬ (IsNearer a a ns)
not_twice a [] d h = absurd h
not_twice a (n ∷ ns) d (inl h) = d.0 (subst (λ x. IsIn x ns) h.0 h.1)
not_twice a (n ∷ ns) d (inr h) = not_twice a ns d.1 h

pub order_by : (f : Forest) (ns : List ℕ) → ((a b : ℕ) → IsNearer a b ns → ¬ (Above (IsParent f) a b)) →
    AreInOrder f ns
order_by f [] none = tt
order_by f (n ∷ ns) none = ((λ m i. none n m (inl (refl, i))), order_by f ns (λ a b h. none a b (inr h)))

pub never_above : (f : Forest) (a b : ℕ) (ns : List ℕ) → AreInOrder f ns → IsNearer a b ns → ¬ (Above (IsParent f) a b)
never_above f a b [] order h = absurd h
never_above f a b (n ∷ ns) order (inl h) = λ up. order.0 b h.1 (subst (λ x. Above (IsParent f) x b) h.0 up)
never_above f a b (n ∷ ns) order (inr h) = never_above f a b ns order.1 h

-- it is a strict order of what is listed
pub nearer_on : (a b c : ℕ) (ns : List ℕ) → AreDistinct ns → IsNearer a b ns → IsNearer b c ns → IsNearer a c ns
nearer_on a b c [] d h k = absurd h
nearer_on a b c (n ∷ ns) d (inl h) (inl k) = absurd (d.0 (subst (λ x. IsIn x ns) k.0 h.1))
nearer_on a b c (n ∷ ns) d (inl h) (inr k) = inl (h.0, farther_in b c ns k)
nearer_on a b c (n ∷ ns) d (inr h) (inl k) = absurd (d.0 (subst (λ x. IsIn x ns) k.0 (farther_in a b ns h)))
nearer_on a b c (n ∷ ns) d (inr h) (inr k) = inr (nearer_on a b c ns d.1 h k)

pub compared : (a b : ℕ) (ns : List ℕ) → IsIn a ns → IsIn b ns → (a ≡ b) ⊎ (IsNearer a b ns ⊎ IsNearer b a ns)
compared a b [] i j = absurd i
compared a b (n ∷ ns) (inl e) (inl k) = inl (e ∙ sym k)
compared a b (n ∷ ns) (inl e) (inr j) = inr (inl (inl (e, j)))
compared a b (n ∷ ns) (inr i) (inl k) = inr (inr (inl (k, i)))
compared a b (n ∷ ns) (inr i) (inr j) =
    either (λ e. inl e) (either (λ h. inr (inl (inr h))) (λ h. inr (inr (inr h)))) (compared a b ns i j)

-- in lists one after another
pub in_after : (n : ℕ) (ms ns : List ℕ) → IsIn n ns → IsIn n (ms ++ ns)
in_after n [] ns i = i
in_after n (m ∷ ms) ns i = inr (in_after n ms ns i)

pub in_front_part : (n : ℕ) (ms ns : List ℕ) → IsIn n ms → IsIn n (ms ++ ns)
in_front_part n [] ns i = absurd i
in_front_part n (m ∷ ms) ns (inl e) = inl e
in_front_part n (m ∷ ms) ns (inr i) = inr (in_front_part n ms ns i)

pub nearer_across : (a b : ℕ) (ms ns : List ℕ) → IsIn a ms → IsIn b ns → IsNearer a b (ms ++ ns)
nearer_across a b [] ns i j = absurd i
nearer_across a b (m ∷ ms) ns (inl e) j = inl (e, in_after b ms ns j)
nearer_across a b (m ∷ ms) ns (inr i) j = inr (nearer_across a b ms ns i j)

-- what stands before a number
by_nearer : (a n m : ℕ) (ms : List ℕ) (b : Bool) → (b ≡ false → ¬ (n ≡ m)) →
    (IsIn a (nearer n ms) → IsIn n ms → IsNearer a n ms) →
    IsIn a (if b then [] else m ∷ nearer n ms) → IsIn n (m ∷ ms) → IsNearer a n (m ∷ ms)
by_nearer a n m ms true off more i there = absurd i
by_nearer a n m ms false off more i (inl k) = absurd (off refl k)
by_nearer a n m ms false off more (inl e) (inr j) = inl (e, j)
by_nearer a n m ms false off more (inr i) (inr j) = inr (more i j)

pub is_nearer : (a n : ℕ) (ms : List ℕ) → IsIn a (nearer n ms) → IsIn n ms → IsNearer a n ms
is_nearer a n [] i there = absurd i
is_nearer a n (m ∷ ms) i there =
    by_nearer a n m ms (m == n) (λ e k. eqb-false m n e (sym k)) (is_nearer a n ms) i there

-- a list that others were left out of
pub record IsLeft (ms ns : List ℕ) : Type 0 where
  pub within : (a : ℕ) → IsIn a ms → IsIn a ns
  pub nearer : (a b : ℕ) → IsNearer a b ms → IsNearer a b ns

pub all_left : (ns : List ℕ) → IsLeft ns ns
all_left ns = record { within = λ a i. i; nearer = λ a b h. h }

pub left_after : (n : ℕ) (ms ns : List ℕ) → IsLeft ms ns → IsLeft ms (n ∷ ns)
left_after n ms ns left = record { within = λ a i. inr (left.within a i); nearer = λ a b h. inr (left.nearer a b h) }

left_with : (n : ℕ) (ms ns : List ℕ) → IsLeft ms ns → IsLeft (n ∷ ms) (n ∷ ns)
left_with n ms ns left = record {
  within = λ a. either (λ e. inl e) (λ i. inr (left.within a i));
  nearer = λ a b. either (λ h. inl (h.0, left.within b h.1)) (λ h. inr (left.nearer a b h));
}

pub left_out_left : (n : ℕ) (ns : List ℕ) → IsLeft (left_out n ns) ns
left_out_left n [] = all_left []
left_out_left n (m ∷ ms) = cond_both (m == n) (left_out n ms) (m ∷ left_out n ms) (λ l. IsLeft l (m ∷ ms))
    (λ e. left_after m (left_out n ms) ms (left_out_left n ms))
    (λ e. left_with m (left_out n ms) ms (left_out_left n ms))

pub farther_left : (n : ℕ) (ns : List ℕ) → IsLeft (farther n ns) ns
farther_left n [] = all_left []
farther_left n (m ∷ ms) = cond_both (m == n) ms (farther n ms) (λ l. IsLeft l (m ∷ ms))
    (λ e. left_after m ms ms (all_left ms))
    (λ e. left_after m (farther n ms) ms (farther_left n ms))

-- a number in place of another
in_map : (g : ℕ → ℕ) (a : ℕ) (ns : List ℕ) → IsIn a (map g ns) → (x : ℕ) × (IsIn x ns × (a ≡ g x))
in_map g a [] i = absurd i
in_map g a (n ∷ ns) (inl e) = (n, (inl refl, e))
in_map g a (n ∷ ns) (inr i) = let h = in_map g a ns i in (h.0, (inr h.1.0, h.1.1))

nearer_map : (g : ℕ → ℕ) (a b : ℕ) (ns : List ℕ) → IsNearer a b (map g ns) →
    (x : ℕ) × ((y : ℕ) × (IsNearer x y ns × ((a ≡ g x) × (b ≡ g y))))
nearer_map g a b [] h = absurd h
nearer_map g a b (n ∷ ns) (inl h) =
    let i = in_map g b ns h.1 in (n, (i.0, (inl (refl, i.1.0), (h.0, i.1.1))))
nearer_map g a b (n ∷ ns) (inr h) =
    let i = nearer_map g a b ns h in (i.0, (i.1.0, (inr i.1.1.0, i.1.1.1)))

-- what a number was before: another, or itself
pub record Was (n m x a : ℕ) : Type 0 where
  pub old : ¬ (x ≡ n) → a ≡ x
  pub new : x ≡ n → a ≡ m

was : (n m x a : ℕ) → a ≡ (if x == n then m else x) → Was n m x a
was n m x a e = record {
  old = λ off. e ∙ cond_both (x == n) m x (λ y. y ≡ x) (λ is. absurd (off (eqb-true x n is))) (λ isnt. refl);
  new = λ is. e ∙ cond_both (x == n) m x (λ y. y ≡ m) (λ i. refl) (λ isnt. absurd (eqb-false x n isnt is));
}

pub in_replaced : (n m a : ℕ) (ns : List ℕ) → IsIn a (replaced n m ns) → (x : ℕ) × (IsIn x ns × Was n m x a)
in_replaced n m a ns i =
    let h = in_map (λ k. if k == n then m else k) a ns i in (h.0, (h.1.0, was n m h.0 a h.1.1))

pub nearer_replaced : (n m a b : ℕ) (ns : List ℕ) → IsNearer a b (replaced n m ns) →
    (x : ℕ) × ((y : ℕ) × (IsNearer x y ns × (Was n m x a × Was n m y b)))
nearer_replaced n m a b ns h =
    let i = nearer_map (λ k. if k == n then m else k) a b ns h in
    (i.0, (i.1.0, (i.1.1.0, (was n m i.0 a i.1.1.1.0, was n m i.1.0 b i.1.1.1.1))))

-- a number right before another
put_step : (x s c n : ℕ) (ns : List ℕ) (b : Bool) → (b ≡ true → n ≡ s) →
    (IsIn x (put_before s c ns) → IsIn x ns ⊎ ((x ≡ c) × IsIn s ns)) →
    IsIn x (if b then c ∷ n ∷ ns else n ∷ put_before s c ns) → IsIn x (n ∷ ns) ⊎ ((x ≡ c) × IsIn s (n ∷ ns))
put_step x s c n ns true e more (inl is) = inr (is, inl (sym (e refl)))
put_step x s c n ns true e more (inr i) = inl i
put_step x s c n ns false e more (inl is) = inl (inl is)
put_step x s c n ns false e more (inr i) = either (λ h. inl (inr h)) (λ h. inr (h.0, inr h.1)) (more i)

pub in_put_before : (x s c : ℕ) (ns : List ℕ) → IsIn x (put_before s c ns) → IsIn x ns ⊎ ((x ≡ c) × IsIn s ns)
in_put_before x s c [] i = absurd i
in_put_before x s c (n ∷ ns) i = put_step x s c n ns (n == s) (eqb-true n s) (in_put_before x s c ns) i

-- of two numbers there: both were there; the first is new, and the other the one after it or farther; or the other is
-- new, and the first nearer than the one after it
abbrev pub NearerPut : (s c a b : ℕ) → List ℕ → Type 0
NearerPut s c a b ns = IsNearer a b ns ⊎
    (((a ≡ c) × ((b ≡ s) ⊎ IsNearer s b ns)) ⊎ ((b ≡ c) × IsNearer a s ns))

more_put : (s c a b n : ℕ) (ns : List ℕ) → NearerPut s c a b ns → NearerPut s c a b (n ∷ ns)
more_put s c a b n ns (inl h) = inl (inr h)
more_put s c a b n ns (inr (inl (e, inl k))) = inr (inl (e, inl k))
more_put s c a b n ns (inr (inl (e, inr h))) = inr (inl (e, inr (inr h)))
more_put s c a b n ns (inr (inr (e, h))) = inr (inr (e, inr h))

nearer_step : (s c a b n : ℕ) (ns : List ℕ) (t : Bool) → (t ≡ true → n ≡ s) →
    (IsNearer a b (put_before s c ns) → NearerPut s c a b ns) →
    IsNearer a b (if t then c ∷ n ∷ ns else n ∷ put_before s c ns) → NearerPut s c a b (n ∷ ns)
nearer_step s c a b n ns true e more (inl (is, inl k)) = inr (inl (is, inl (k ∙ e refl)))
nearer_step s c a b n ns true e more (inl (is, inr i)) = inr (inl (is, inr (inl (sym (e refl), i))))
nearer_step s c a b n ns true e more (inr h) = inl h
nearer_step s c a b n ns false e more (inl (is, i)) =
    either (λ h. inl (inl (is, h))) (λ h. inr (inr (h.0, inl (is, h.1)))) (in_put_before b s c ns i)
nearer_step s c a b n ns false e more (inr h) = more_put s c a b n ns (more h)

pub nearer_put : (s c a b : ℕ) (ns : List ℕ) → IsNearer a b (put_before s c ns) → NearerPut s c a b ns
nearer_put s c a b [] h = absurd h
nearer_put s c a b (n ∷ ns) h =
    nearer_step s c a b n ns (n == s) (eqb-true n s) (nearer_put s c a b ns) h
