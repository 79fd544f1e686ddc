-- Children that go to another node leave a forest.
use Rattle.std.proofs.Common.{[], ap, inl, inr, refl, subst, suc, sym, zero, ℕ, ◌∙◌, ◌∷◌, ◌≡◌, ◌⊎◌}
use Rattle.tree_forest.specs.Changes.{changed, childless, reparented, with_more}
use Rattle.tree_forest.specs.Conditions.{CanReparent}
use Rattle.tree_forest.specs.Forest.{Forest, children_at, contents_of, element_of, nodes}
use Rattle.tree_forest.specs.Orders.{AreDistinct, IsForest, IsIn, IsParent, child, of_child, of_contents}
use Rattle.tree_forest.proofs.KeptForests.{moved}
use Rattle.tree_forest.proofs.Nodes.{changed_has, size_changed}
use Rattle.tree_forest.proofs.Numbers.{distinct_append, in_append}
use Rattle.tree_forest.proofs.Relations.{at_or_above_on, either}
use Rattle.tree_forest.proofs.LawPlaces.{reparented_kinds}

pub emptied : (p : ℕ) (f : Forest) → children_at p (changed p childless f) ≡ []
emptied p [] = refl
emptied zero (x ∷ f) = refl
emptied (suc p) (x ∷ f) = emptied p f

-- a child of a node that is left is one of another node than that which loses its children
pub still_child : (a b old : ℕ) (f : Forest) → IsIn b (children_at a (changed old childless f)) →
    IsIn b (children_at a f) × ¬ (a ≡ old)
still_child a b old f i = (
  changed_has (λ x. IsIn b x.children → IsIn b (children_at a f)) a old childless f (λ h. h) (λ _ h. absurd h) i,
  λ e. subst (IsIn b) (emptied old f) (subst (λ x. IsIn b (children_at x (changed old childless f))) e i),
)

pub child_after : (a b old new : ℕ) (f : Forest) → IsIn b (children_at a (reparented old new f)) →
    (IsIn b (children_at a f) × ¬ (a ≡ old)) ⊎ ((a ≡ new) × IsIn b (children_at old f))
child_after a b old new f = changed_has
    (λ x. IsIn b x.children → (IsIn b (children_at a f) × ¬ (a ≡ old)) ⊎ ((a ≡ new) × IsIn b (children_at old f)))
    a new (with_more (children_at old f)) (changed old childless f)
    (λ i. inl (still_child a b old f i))
    (λ e i. either (λ h. inl (still_child a b old f h)) (λ h. inr (e, h))
    (in_append b (children_at a (changed old childless f)) (children_at old f) i))

pub contents_after : (a old new : ℕ) (f : Forest) → contents_of a (reparented old new f) ≡ contents_of a f
contents_after a old new f = ap (λ kind. (element_of kind).contents) (reparented_kinds old new a f)

pub size_reparented : (old new : ℕ) (f : Forest) → nodes (reparented old new f) ≡ nodes f
size_reparented old new f =
    size_changed new (with_more (children_at old f)) (changed old childless f) ∙ size_changed old childless f

module _ (old new : ℕ) (f : Forest) (forest : IsForest f) (can : CanReparent old new f) where
  distinct_left : (a : ℕ) → AreDistinct (children_at a (changed old childless f))
  distinct_left a = changed_has (λ x. AreDistinct x.children) a old childless f (forest.once a) (λ _. tt)

  shared : (a c : ℕ) → a ≡ new → IsIn c (children_at a (changed old childless f)) → ¬ (IsIn c (children_at old f))
  shared a c e i also = (still_child a c old f i).1
      (forest.single a old c (of_child a c (still_child a c old f i).0) (of_child old c also))

  distinct_after : (a : ℕ) → AreDistinct (children_at a (reparented old new f))
  distinct_after a = changed_has (λ x. AreDistinct x.children) a new
      (with_more (children_at old f)) (changed old childless f)
      (distinct_left a)
      (λ e. distinct_append (children_at a (changed old childless f)) (children_at old f)
      (distinct_left a) (forest.once old)
      (λ c i also. shared a c e i also))

  only_parent : (a b : ℕ) → IsIn b (children_at old f) → IsParent (reparented old new f) a b → a ≡ new
  only_parent a b s (of_child _ _ i) = either
      (λ h. absurd (h.1 (forest.single a old b (of_child a b h.0) (of_child old b s))))
      (λ h. h.0) (child_after a b old new f i)
  only_parent a b s (of_contents _ _ e) =
      absurd (forest.childless old b s (forest.contents a b (sym (contents_after a old new f) ∙ e)))

pub reparented_kept : (old new : ℕ) (f : Forest) → IsForest f → CanReparent old new f → IsForest (reparented old new f)
reparented_kept old new f forest can = moved f (reparented old new f) new (λ b. IsIn b (children_at old f)) forest
    (record {
      size = size_reparented old new f;
      contents = λ a. contents_after a old new f;
      documents = λ a is. sym (reparented_kinds old new a f) ∙ is;
      kept = λ a is. reparented_kinds old new a f ∙ is;
      children = λ a b i. either (λ h. inl h.0) (λ h. inr h) (child_after a b old new f i);
      once = distinct_after old new f forest can;
    }) (record {
      held = λ b s. forest.within old b (of_child old b s);
      no_document = λ b s. forest.childless old b s;
      only = only_parent old new f forest can;
      apart = λ b s up. can.apart (at_or_above_on (IsParent f) old b new (inr (child old b (of_child old b s))) up);
    })
