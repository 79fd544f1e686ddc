-- What a change must keep, so that nodes stay a forest.
use Rattle.std.proofs.Common.{◌≡◌, ℕ, zero, suc, ◌≤◌, ◌⊎◌, inl, inr, refl, sym, subst, ◌∙◌, Some, arith}
use Rattle.tree_forest.specs.Forest.{Forest, Holds, children_at, contents_of, nodes, page_alone}
use Rattle.tree_forest.specs.Orders.{AreDistinct, AtOrAbove, HasNoParent, IsDocument, IsForest, IsIn, IsParent}
use Rattle.tree_forest.specs.Orders.{of_child, of_contents}
use Rattle.tree_forest.proofs.Relations.{acyclic_with, either, first_edge}

no_child : (p c : ℕ) → ¬ (IsIn c (children_at p page_alone))
no_child zero c i = i
no_child (suc p) c i = i

no_contents : (p c : ℕ) → ¬ (contents_of p page_alone ≡ Some c)
no_contents zero c e = absurd (cc)
no_contents (suc p) c e = absurd (cc)

no_parent : (p c : ℕ) → ¬ (IsParent page_alone p c)
no_parent p c (of_child _ _ i) = no_child p c i
no_parent p c (of_contents _ _ e) = no_contents p c e

none_distinct : (p : ℕ) → AreDistinct (children_at p page_alone)
none_distinct zero = tt
none_distinct (suc p) = tt

pub page_alone_kept : IsForest page_alone
page_alone_kept = record {
  within = λ p c e. absurd (no_parent p c e);
  single = λ p q c e d. absurd (no_parent p c e);
  once = none_distinct;
  acyclic = λ n up. no_parent n (first_edge (IsParent page_alone) n n up).0 (first_edge (IsParent page_alone) n n up).1;
  childless = λ p c i. absurd (no_child p c i);
  contents = λ p c e. absurd (no_contents p c e);
  page = (omega arith, (refl, λ p. no_parent p 0));
}

-- A change adds edges from p to the nodes of S, which had no parent but p and aren't at or above it.
pub record IsGrown (f g : Forest) (p : ℕ) (S : ℕ → Type 0) : Type 0 where
  pub size : nodes f ≤ nodes g
  pub edges : (a b : ℕ) → IsParent g a b → IsParent f a b ⊎ ((a ≡ p) × S b)
  pub held : (b : ℕ) → S b → Holds b g
  pub only : (a b : ℕ) → S b → IsParent g a b → a ≡ p
  pub apart : (b : ℕ) → S b → ¬ (AtOrAbove (IsParent f) b p)
  pub root : ¬ (S 0)
  pub first : IsDocument 0 g
  pub once : (a : ℕ) → AreDistinct (children_at a g)
  pub childless : (a b : ℕ) → IsIn b (children_at a g) → ¬ (IsDocument b g)
  pub contents : (a b : ℕ) → contents_of a g ≡ Some b → IsDocument b g

grown_holds : (c : ℕ) (f g : Forest) → nodes f ≤ nodes g → Holds c f → Holds c g
grown_holds c f g h held = omega arith

one_parent : (f g : Forest) (p : ℕ) (S : ℕ → Type 0) → IsForest f → IsGrown f g p S →
    (a b c : ℕ) → IsParent g a c → IsParent g b c → a ≡ b
one_parent f g p S forest change a b c d e =
    let by_new : S c → a ≡ b = λ new. change.only a c new d ∙ sym (change.only b c new e) in
    let also = change.edges b c e in
    let by_old : IsParent f a c → a ≡ b = λ old. either (forest.single a b c old) (λ new. by_new new.1) also in
    either by_old (λ new. by_new new.1) (change.edges a c d)

pub grown : (f g : Forest) (p : ℕ) (S : ℕ → Type 0) → IsForest f → IsGrown f g p S → IsForest g
grown f g p S forest change = record {
  within = λ a b e. either (λ old. grown_holds b f g change.size (forest.within a b old))
      (λ new. change.held b new.1) (change.edges a b e);
  single = one_parent f g p S forest change;
  once = change.once;
  acyclic = acyclic_with (IsParent f) (IsParent g) p S change.edges forest.acyclic change.apart;
  childless = change.childless;
  contents = change.contents;
  page = (
    grown_holds 0 f g change.size forest.page.0,
    (
      change.first,
      λ a e. either (forest.page.1.1 a) (λ new. change.root new.1) (change.edges a 0 e),
    ),
  );
}

pub edges_from : (f g : Forest) (p : ℕ) (S : ℕ → Type 0) → ((a : ℕ) → contents_of a g ≡ contents_of a f) →
    ((a b : ℕ) → IsIn b (children_at a g) → IsIn b (children_at a f) ⊎ ((a ≡ p) × S b)) →
    (a b : ℕ) → IsParent g a b → IsParent f a b ⊎ ((a ≡ p) × S b)
edges_from f g p S contents children a b (of_child _ _ i) =
    either (λ old. inl (of_child a b old)) (λ new. inr new) (children a b i)
edges_from f g p S contents children a b (of_contents _ _ e) = inl (of_contents a b (sym (contents a) ∙ e))

-- A change keeps all nodes and what they are, but for children more of p.
pub record IsMoved (f g : Forest) (p : ℕ) (S : ℕ → Type 0) : Type 0 where
  pub size : nodes g ≡ nodes f
  pub contents : (a : ℕ) → contents_of a g ≡ contents_of a f
  pub documents : (a : ℕ) → IsDocument a g → IsDocument a f
  pub kept : (a : ℕ) → IsDocument a f → IsDocument a g
  pub children : (a b : ℕ) → IsIn b (children_at a g) → IsIn b (children_at a f) ⊎ ((a ≡ p) × S b)
  pub once : (a : ℕ) → AreDistinct (children_at a g)

pub record IsFit (f g : Forest) (p : ℕ) (S : ℕ → Type 0) : Type 0 where
  pub held : (b : ℕ) → S b → Holds b f
  pub no_document : (b : ℕ) → S b → ¬ (IsDocument b f)
  pub only : (a b : ℕ) → S b → IsParent g a b → a ≡ p
  pub apart : (b : ℕ) → S b → ¬ (AtOrAbove (IsParent f) b p)

same_size : (f g : Forest) → nodes g ≡ nodes f → nodes f ≤ nodes g
same_size f g e = omega arith

pub moved : (f g : Forest) (p : ℕ) (S : ℕ → Type 0) → IsForest f → IsMoved f g p S → IsFit f g p S → IsForest g
moved f g p S forest change fit = grown f g p S forest (record {
  size = same_size f g change.size;
  edges = edges_from f g p S change.contents change.children;
  held = λ b s. grown_holds b f g (same_size f g change.size) (fit.held b s);
  only = fit.only;
  apart = fit.apart;
  root = λ s. fit.no_document 0 s forest.page.1.0;
  first = change.kept 0 forest.page.1.0;
  once = change.once;
  childless = λ a b i is. either (λ old. forest.childless a b old (change.documents b is))
      (λ new. fit.no_document b new.1 (change.documents b is)) (change.children a b i);
  contents = λ a b e. change.kept b (forest.contents a b (sym (change.contents a) ∙ e));
})

-- a change that adds no edge
pub none_added : (f g : Forest) → IsFit f g 0 (λ _. ⊥)
none_added f g = record {
  held = λ b s. absurd s;
  no_document = λ b s. absurd s;
  only = λ a b s. absurd s;
  apart = λ b s. absurd s;
}

-- a node without a parent gets one
pub one_added : (f g : Forest) (p n : ℕ) → IsMoved f g p (λ b. b ≡ n) → Holds n f → HasNoParent n f →
    ¬ (IsDocument n f) →
    ¬ (AtOrAbove (IsParent f) n p) → IsFit f g p (λ b. b ≡ n)
one_added f g p n change held free plain apart = record {
  held = λ b s. subst (λ x. Holds x f) (sym s) held;
  no_document = λ b s is. plain (subst (λ x. IsDocument x f) s is);
  only = λ a b s e. either (λ old. absurd (free a (subst (IsParent f a) s old))) (λ new. new.0)
      (edges_from f g p (λ x. x ≡ n) change.contents change.children a b e);
  apart = λ b s up. apart (subst (λ x. AtOrAbove (IsParent f) x p) s up);
}
