-- What the nodes in memory mean: what each is, its links, and the forest to which they lead.
use Rattle.std.specs.Prelude.{◌≡◌, [], ◌∷◌, ◌++◌, Bool, List, None, Option, Some, false, is_some, length, map}
use Rattle.std.specs.Prelude.{option_map, suc, zero, ℕ}
use Rattle.tree_forest.specs.Forest.{Forest, Kind, Node, comment, doctype, document, element, instruction, kind_at}
use Rattle.tree_forest.specs.Forest.{text, text_of}
use Rattle.html_render_dom.specs.Numbers.{number_of}
use Rattle.html_render_dom.specs.Siblings.{Links, Spot, link_at, spot_of}
use Rattle.html_render_dom.specs.declared.node.Handle.{Handle}
use Rattle.html_render_dom.specs.declared.node.Node.{Node as HeldNode}
use Rattle.html_render_dom.specs.declared.node.NodeData.{NodeData}
use Rattle.html_render_dom.specs.declared.node.NodeData.TheVariants as data_of
use Rattle.html_render_dom.specs.declared.nodes.Nodes.{Nodes}

abbrev pub kind_of : NodeData → Kind
kind_of data_of.Document = document
kind_of (data_of.Doctype name public_id system_id) = doctype name public_id system_id
kind_of (data_of.Text contents) = text contents
kind_of (data_of.Comment contents) = comment contents
kind_of (data_of.Element name attrs contents point) = element (record {
  name = name;
  attributes = attrs;
  contents = option_map number_of contents;
  integration_point = point;
})
kind_of (data_of.ProcessingInstruction target contents) = instruction target contents

abbrev pub links_in : List HeldNode → Links
links_in xs = record {
  parent = map (λ x. option_map number_of x.parent) xs;
  first = map (λ x. option_map number_of x.first) xs;
  last = map (λ x. option_map number_of x.last) xs;
  previous = map (λ x. option_map number_of x.previous) xs;
  next = map (λ x. option_map number_of x.next) xs;
}

abbrev pub kinds_in : List HeldNode → List Kind
kinds_in xs = map (λ x. kind_of x.data) xs

abbrev pub links_of : Nodes → Links
links_of held = links_in held.items.items

abbrev pub kinds_of : Nodes → List Kind
kinds_of held = kinds_in held.items.items

-- a spot among the children of a node, by handles
abbrev pub spot_at : Handle → Option Handle → Spot
spot_at parent spot = spot_of (number_of parent) (option_map number_of spot)

-- a node more, without links
abbrev pub with_no_links : Links → Links
with_no_links l = record {
  parent = l.parent ++ None ∷ [];
  first = l.first ++ None ∷ [];
  last = l.last ++ None ∷ [];
  previous = l.previous ++ None ∷ [];
  next = l.next ++ None ∷ [];
}

-- from a number on, each next one, for so many steps at most
abbrev pub chain : List (Option ℕ) → ℕ → Option ℕ → List ℕ
chain next steps None = []
chain next zero (Some n) = []
chain next (suc steps) (Some n) = n ∷ chain next steps (link_at n next)

-- from a number on, each next one, to the end
abbrev pub IsFollowed : List (Option ℕ) → Option ℕ → List ℕ → Type 0
IsFollowed next o [] = o ≡ None
IsFollowed next o (c ∷ cs) = (o ≡ Some c) × IsFollowed next (link_at c next) cs

-- other parents
abbrev pub with_parents : List (Option ℕ) → Links → Links
with_parents parents l = record l { parent = parents }

-- a node with the children to which its links lead
abbrev pub node_in : List (Option ℕ) → HeldNode → Node
node_in next x = record { kind = kind_of x.data; children = chain next (length next) (option_map number_of x.first) }

abbrev pub forest_of : Nodes → Forest
forest_of held = map (node_in (links_of held).next) held.items.items

-- some node is given, and it is a text
abbrev pub is_some_text : Option Handle → Forest → Bool
is_some_text None f = false
is_some_text (Some n) f = is_some (text_of (kind_at (number_of n) f))
