-- Where a node or a text is put: after the last child of a node, or right before a child (WHATWG DOM, 4.2.3; WHATWG
-- HTML, 13.2.6.1).
use Rattle.std.specs.Prelude.{ℕ, List, [], ◌∷◌, ◌++◌, Option, None, Some, map, ◌==◌, if◌then◌else◌}
use Rattle.tree_forest.specs.Changes.{changed, made, saying}
use Rattle.tree_forest.specs.Forest.{Forest, Node, children_at, doctype, kind_at, nodes, parent_of, text, text_of}

pub data Place : Type 0 where
  below : ℕ → Place
  before : ℕ → Place

-- what is put: a node that stands nowhere yet, or characters
pub data Child : Type 0 where
  node : ℕ → Child
  words : List ℕ → Child

-- a child more, after the others or before one of them
abbrev pub trailing : ℕ → Node → Node
trailing c x = record { kind = x.kind; children = x.children ++ c ∷ [] }

abbrev pub put_before : ℕ → ℕ → List ℕ → List ℕ
put_before s c [] = []
put_before s c (n ∷ ns) = if n == s then c ∷ n ∷ ns else n ∷ put_before s c ns

abbrev pub in_front : ℕ → ℕ → Node → Node
in_front s c x = record { kind = x.kind; children = put_before s c x.children }

abbrev pub put_node : Place → ℕ → Forest → Forest
put_node (below p) n f = changed p (trailing n) f
put_node (before s) n f = map (in_front s n) f

-- the last of some nodes, and the one right before another
abbrev pub last_of : List ℕ → Option ℕ
last_of [] = None
last_of (n ∷ []) = Some n
last_of (n ∷ m ∷ ms) = last_of (m ∷ ms)

abbrev pub one_before : ℕ → List ℕ → Option ℕ
one_before s [] = None
one_before s (n ∷ []) = None
one_before s (n ∷ m ∷ ms) = if m == s then Some n else one_before s (m ∷ ms)

abbrev pub siblings_of : ℕ → Forest → List ℕ
siblings_of s f = children_under (parent_of s f) f where
  children_under : Option ℕ → Forest → List ℕ
  children_under None f = []
  children_under (Some p) f = children_at p f

-- the node right before a place
abbrev pub neighbour : Place → Forest → Option ℕ
neighbour (below p) f = last_of (children_at p f)
neighbour (before s) f = one_before s (siblings_of s f)

-- Characters are added to the text right before their place, where there is one; else they are a new text node there
-- (WHATWG HTML, 13.2.6.1, "insert a character"). No characters change nothing.
abbrev pub put_words : Place → List ℕ → Forest → Forest
put_words place [] f = f
put_words place (c ∷ cs) f = say (neighbour place f) where
  add : Option (List ℕ) → ℕ → Forest
  add (Some before_it) n = changed n (saying (c ∷ cs)) f
  add None n = put_node place (nodes f) (made (text (c ∷ cs)) f)

  say : Option ℕ → Forest
  say None = put_node place (nodes f) (made (text (c ∷ cs)) f)
  say (Some n) = add (text_of (kind_at n f)) n

abbrev pub put : Place → Child → Forest → Forest
put place (node n) f = put_node place n f
put place (words cs) f = put_words place cs f

-- before a table that has a parent, else below what stands above the table on the stack (13.2.6.1, foster parent)
abbrev pub based_on : ℕ → ℕ → Forest → Place
based_on table above f = by (parent_of table f) where
  by : Option ℕ → Place
  by (Some p) = before table
  by None = below above

-- the node below which a place is
abbrev pub parent_at : Place → Forest → Option ℕ
parent_at (below p) f = Some p
parent_at (before s) f = parent_of s f

-- a doctype more, after the children of the page's document
abbrev pub with_doctype : (name public_id system_id : List ℕ) → Forest → Forest
with_doctype name public_id system_id f = put_node (below 0) (nodes f) (made (doctype name public_id system_id) f)
