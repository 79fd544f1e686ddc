-- What may be done to a forest, so that it stays one (WHATWG DOM, 4.2.3, "ensure pre-insert validity").
use Rattle.std.specs.Prelude.{ℕ}
use Rattle.tree_forest.specs.Forest.{Forest, Holds, children_at}
use Rattle.tree_forest.specs.Orders.{Above, AtOrAbove, HasNoParent, IsDocument, IsIn, IsParent}
use Rattle.tree_forest.specs.Places.{Child, Place, below, before, node, words}

-- the node that a place is named by
abbrev pub is_from : Place → ℕ
is_from (below p) = p
is_from (before s) = s

-- a place is after the children of a node that is there, or before a child
abbrev pub IsPlace : Place → Forest → Type 0
IsPlace (below p) f = Holds p f
IsPlace (before s) f = (p : ℕ) × IsIn s (children_at p f)

-- a node may be put there: it stands nowhere yet, is no document, and isn't at or above the place
pub record CanMove (place : Place) (n : ℕ) (f : Forest) : Type 0 where
  pub within : Holds n f
  pub free : HasNoParent n f
  pub no_document : ¬ (IsDocument n f)
  pub apart : ¬ (AtOrAbove (IsParent f) n (is_from place))

abbrev pub CanPut : Place → Child → Forest → Type 0
CanPut place (node n) f = IsPlace place f × CanMove place n f
CanPut place (words cs) f = IsPlace place f

-- the children of a node may go to another, which isn't the node nor below it
pub record CanReparent (old new : ℕ) (f : Forest) : Type 0 where
  pub given : Holds old f
  pub holds : Holds new f
  pub apart : ¬ (AtOrAbove (IsParent f) old new)

-- a node at or above the one below which a place is
abbrev pub IsAbovePlace : Place → ℕ → Forest → Type 0
IsAbovePlace (below p) a f = AtOrAbove (IsParent f) a p
IsAbovePlace (before s) a f = Above (IsParent f) a s
