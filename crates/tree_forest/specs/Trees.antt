-- The trees of some nodes of a forest, without their numbers (WHATWG DOM, 1.1). A template's contents stand beside its
-- children, and are in no tree but their own.
use Rattle.std.specs.Prelude.{ℕ, zero, suc, ◌+◌, List, [], ◌∷◌}
use Rattle.tree_forest.specs.Forest.{Forest, Kind, children_at, kind_at, nodes}

-- Trees in order: what the first one's node is, what stands in it, and what follows it.
pub data Trees : Type 0 where
  none : Trees
  node : Kind → Trees → Trees → Trees

abbrev pub each_before : (ℕ → Trees → Trees) → List ℕ → Trees
each_before tree_before [] = none
each_before tree_before (n ∷ ns) = tree_before n (each_before tree_before ns)

-- the tree of a node, before others; a forest of so many nodes is at most so many deep
abbrev pub tree_before : ℕ → Forest → ℕ → Trees → Trees
tree_before zero f n rest = rest
tree_before (suc k) f n rest = node (kind_at n f) (each_before (tree_before k f) (children_at n f)) rest

abbrev pub trees : Forest → List ℕ → Trees
trees f ns = each_before (tree_before (nodes f) f) ns

-- trees before others
abbrev pub followed_by : Trees → Trees → Trees
followed_by none others = others
followed_by (node kind kids rest) others = node kind kids (followed_by rest others)

-- how many nodes trees have
abbrev pub size : Trees → ℕ
size none = 0
size (node kind kids rest) = suc (size kids + size rest)

-- three steps for each node: to it, into its children, and out of them
abbrev pub steps : Trees → ℕ
steps none = 0
steps (node kind kids rest) = suc (suc (suc (steps kids + steps rest)))
