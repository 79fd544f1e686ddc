-- Which nodes stand above which, and when nodes are a forest: each has one parent at most, and none is above itself.
use Rattle.std.specs.Prelude.{◌≡◌, ℕ, ◌⊎◌, List, [], ◌∷◌, Some}
use Rattle.tree_forest.specs.Forest.{Forest, Holds, children_at, contents_of, document, kind_at}

-- a number is among others, and numbers are pairwise distinct
abbrev pub IsIn : ℕ → List ℕ → Type 0
IsIn n [] = ⊥
IsIn n (m ∷ ms) = (n ≡ m) ⊎ IsIn n ms

abbrev pub AreDistinct : List ℕ → Type 0
AreDistinct [] = Unit {0}
AreDistinct (n ∷ ns) = ¬ (IsIn n ns) × AreDistinct ns

-- A node is the parent of its children, and a template of what holds its contents.
pub data IsParent (f : Forest) : ℕ → ℕ → Type 0 where
  of_child : (p c : ℕ) → IsIn c (children_at p f) → IsParent f p c
  of_contents : (p c : ℕ) → contents_of p f ≡ Some c → IsParent f p c

-- above, by one step from parent to child or by more
pub data Above (E : ℕ → ℕ → Type 0) : ℕ → ℕ → Type 0 where
  child : (a b : ℕ) → E a b → Above E a b
  further : (a b c : ℕ) → Above E a b → E b c → Above E a c

abbrev pub AtOrAbove : (ℕ → ℕ → Type 0) → ℕ → ℕ → Type 0
AtOrAbove E a b = (a ≡ b) ⊎ Above E a b

abbrev pub HasNoParent : ℕ → Forest → Type 0
HasNoParent n f = (p : ℕ) → ¬ (IsParent f p n)

abbrev pub IsDocument : ℕ → Forest → Type 0
IsDocument n f = kind_at n f ≡ document

-- Nodes are a forest (WHATWG DOM, 1.1), in which no document is a child (4.2.3) and what holds a template's contents is
-- one (WHATWG HTML, 4.12.3).
pub record IsForest (f : Forest) : Type 0 where
  pub within : (p c : ℕ) → IsParent f p c → Holds c f
  pub single : (p q c : ℕ) → IsParent f p c → IsParent f q c → p ≡ q
  pub once : (p : ℕ) → AreDistinct (children_at p f)
  pub acyclic : (n : ℕ) → ¬ (Above (IsParent f) n n)
  pub childless : (p c : ℕ) → IsIn c (children_at p f) → ¬ (IsDocument c f)
  pub contents : (p c : ℕ) → contents_of p f ≡ Some c → IsDocument c f
  pub page : Holds 0 f × (IsDocument 0 f × HasNoParent 0 f)
