-- Paths of a relation: they join, and what edges out of one node add to them.
use Rattle.std.proofs.Common.{◌≡◌, ℕ, ◌⊎◌, inl, inr, refl, sym, subst}
use Rattle.tree_forest.specs.Orders.{Above, AtOrAbove, child, further}

pub either : {A B C : Type 0} → (A → C) → (B → C) → A ⊎ B → C
either f g (inl a) = f a
either f g (inr b) = g b

pub above_on : (E : ℕ → ℕ → Type 0) (a b c : ℕ) → Above E a b → Above E b c → Above E a c
above_on E a b c up (child _ _ e) = further a b c up e
above_on E a b c up (further _ d _ more e) = further a d c (above_on E a b d up more) e

pub with_edge : (E : ℕ → ℕ → Type 0) (a b c : ℕ) → AtOrAbove E a b → E b c → AtOrAbove E a c
with_edge E a b c (inl e) edge = inr (child a c (subst (λ x. E x c) (sym e) edge))
with_edge E a b c (inr up) edge = inr (further a b c up edge)

pub at_or_above_on : (E : ℕ → ℕ → Type 0) (a b c : ℕ) → AtOrAbove E a b → AtOrAbove E b c → AtOrAbove E a c
at_or_above_on E a b c (inl e) far = subst (λ x. AtOrAbove E x c) (sym e) far
at_or_above_on E a b c (inr up) (inl e) = inr (subst (Above E a) e up)
at_or_above_on E a b c (inr up) (inr far) = inr (above_on E a b c up far)

-- a path begins with an edge
pub first_edge : (E : ℕ → ℕ → Type 0) (a b : ℕ) → Above E a b → (c : ℕ) × E a c
first_edge E a b (child _ _ e) = (b, e)
first_edge E a b (further _ c _ up e) = first_edge E a c up

pub above_in : (E F : ℕ → ℕ → Type 0) → ((a b : ℕ) → E a b → F a b) → (a b : ℕ) → Above E a b → Above F a b
above_in E F m a b (child _ _ e) = child a b (m a b e)
above_in E F m a b (further _ c _ up e) = further a c b (above_in E F m a c up) (m c b e)

pub at_or_above_in : (E F : ℕ → ℕ → Type 0) → ((a b : ℕ) → E a b → F a b) → (a b : ℕ) → AtOrAbove E a b →
    AtOrAbove F a b
at_or_above_in E F m a b (inl e) = inl e
at_or_above_in E F m a b (inr up) = inr (above_in E F m a b up)

-- a path that takes edges out of p to the nodes of S: its part before the first of them, and that after the last
pub record IsThrough (E : ℕ → ℕ → Type 0) (p : ℕ) (S : ℕ → Type 0) (a b : ℕ) : Type 0 where
  pub start : AtOrAbove E a p
  pub turn : ℕ
  pub taken : S turn
  pub onward : AtOrAbove E turn b

module _ (E F : ℕ → ℕ → Type 0) (p : ℕ) (S : ℕ → Type 0) (edges : (a b : ℕ) → F a b → E a b ⊎ ((a ≡ p) × S b)) where
  from_first : (a b : ℕ) → E a b ⊎ ((a ≡ p) × S b) → Above E a b ⊎ IsThrough E p S a b
  from_first a b (inl e) = inl (child a b e)
  from_first a b (inr r) = inr (record { start = inl r.0; turn = b; taken = r.1; onward = inl refl })

  from_next : (a c b : ℕ) → Above E a c ⊎ IsThrough E p S a c → E c b ⊎ ((c ≡ p) × S b) →
      Above E a b ⊎ IsThrough E p S a b
  from_next a c b (inl up) (inl e) = inl (further a c b up e)
  from_next a c b (inr t) (inl e) =
      inr (record { start = t.start; turn = t.turn; taken = t.taken; onward = with_edge E t.turn c b t.onward e })
  from_next a c b (inl up) (inr r) =
      inr (record { start = inr (subst (Above E a) r.0 up); turn = b; taken = r.1; onward = inl refl })
  from_next a c b (inr t) (inr r) = inr (record { start = t.start; turn = b; taken = r.1; onward = inl refl })

  -- a path in the new relation is one in the old, or goes through the new edges
  pub through : (a b : ℕ) → Above F a b → Above E a b ⊎ IsThrough E p S a b
  through a b (child _ _ e) = from_first a b (edges a b e)
  through a b (further _ c _ up e) = from_next a c b (through a c up) (edges c b e)

  pub acyclic_with : ((n : ℕ) → ¬ (Above E n n)) → ((b : ℕ) → S b → ¬ (AtOrAbove E b p)) → (n : ℕ) → ¬ (Above F n n)
  acyclic_with old apart n up = either (old n)
      (λ t. apart t.turn t.taken (at_or_above_on E t.turn n p t.onward t.start)) (through n n up)
