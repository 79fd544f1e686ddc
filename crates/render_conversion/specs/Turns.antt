-- What is still to be done while a page is converted.
use Rattle.std.specs.Prelude.{◌≡◌, ℕ, ◌+◌, ◌<◌, if◌then◌else◌, List, [], ◌∷◌, ◌++◌, Option, None, Some, length, take}
use Rattle.tree_forest.specs.Trees.{Trees, node, trees}
use Rattle.tree_forest.specs.Trees as of_trees
use Rattle.tree_forest.specs.Forest.{Forest, children_at, kind_at}
use Rattle.html_render_dom.specs.ChildNodes.{children_left}
use Rattle.html_render_dom.specs.Numbers.{handle_of, number_of}
use Rattle.html_render_dom.specs.declared.node.Handle.{Handle}
use Rattle.render_values.specs.Arena.{IsFlat, flat}
use Rattle.render_values.specs.Closing.{closed}
use Rattle.render_values.specs.declared.node.RenderNode.{RenderNode}
use Rattle.render_conversion.specs.Conversion.{content, values}
use Rattle.render_conversion.specs.Inner.{closing, has_closing, table_parts, table_value}
use Rattle.render_conversion.specs.Styles.{Styles, parts_of}
use Rattle.render_conversion.specs.declared.inner.Inner.{Inner}
use Rattle.render_conversion.specs.declared.inner.Inner.TheVariants.{Captioned, Children, Quoted, Spaced, TableParts}
use Rattle.render_conversion.specs.declared.options.ConversionOptions.{ConversionOptions}
use Rattle.render_conversion.specs.declared.place.Place.{Place}
use Rattle.render_conversion.specs.declared.place.Place.TheVariants.{Captions, Feet, Flow, Groups}
use Rattle.render_conversion.specs.declared.turns.Turn.{Turn}
use Rattle.render_conversion.specs.declared.turns.Turn.TheVariants.{After, Close, Closing, Row, Table, Visit}

-- the children of a node
abbrev pub kids_of : Handle → Forest → Trees
kids_of n f = trees f (children_at (number_of n) f)

-- nodes, with all that is still to be done
abbrev pub later : ConversionOptions → Styles → Forest → List Turn → List RenderNode → List RenderNode
later o styles f [] nodes = nodes
later o styles f (Visit n place ∷ ts) nodes =
    later o styles f ts (nodes ++ flat (values o styles place (trees f (number_of n ∷ []))))
later o styles f (Row n others place ∷ ts) nodes =
    later o styles f ts (nodes ++ flat (values o styles place (trees f (number_of n ∷ children_left others))))
later o styles f (After n place ∷ ts) nodes =
    later o styles f ts (nodes ++ flat (content place (parts_of styles (kind_at (number_of n) f)).after))
later o styles f (Closing inner ∷ ts) nodes = later o styles f ts (nodes ++ flat (closing inner))
later o styles f (Table n ∷ ts) nodes =
    later o styles f ts (nodes ++ flat (table_value (table_parts (λ place. values o styles place (kids_of n f)))))
later o styles f (Close opened ∷ ts) nodes = later o styles f ts (closed opened nodes)

-- values that are to end stand among the nodes, and each after values that are whole and those that end later
abbrev pub AreOpen : List RenderNode → List Turn → Type 0
AreOpen nodes [] = Unit {0}
AreOpen nodes (Visit n place ∷ ts) = AreOpen nodes ts
AreOpen nodes (Row n others place ∷ ts) = AreOpen nodes ts
AreOpen nodes (After n place ∷ ts) = AreOpen nodes ts
AreOpen nodes (Closing inner ∷ ts) = AreOpen nodes ts
AreOpen nodes (Table n ∷ ts) = AreOpen nodes ts
AreOpen nodes (Close opened ∷ ts) =
    (opened.at < length nodes) × (IsFlat (take opened.at nodes) × AreOpen (take opened.at nodes) ts)

-- how much is still to be done for nodes: children are walked three times at most
abbrev pub effort : Trees → ℕ
effort of_trees.none = 0
effort (node kind kids rest) = 6 + (effort kids + (effort kids + (effort kids + effort rest)))

-- how much is still to be done
abbrev pub weight : Forest → List Turn → ℕ
weight f [] = 0
weight f (Visit n place ∷ ts) = effort (trees f (number_of n ∷ [])) + weight f ts
weight f (Row n others place ∷ ts) = effort (trees f (number_of n ∷ children_left others)) + weight f ts
weight f (After n place ∷ ts) = 1 + weight f ts
weight f (Closing inner ∷ ts) = 1 + weight f ts
weight f (Table n ∷ ts) = 2 + (effort (kids_of n f) + effort (kids_of n f)) + weight f ts
weight f (Close opened ∷ ts) = 1 + weight f ts

-- nodes that are to be visited, in one turn
abbrev pub visits : Place → List ℕ → List Turn
visits place [] = []
visits place (n ∷ ns) = Row (handle_of n) ns place ∷ []

-- a text that is to be put after a node's children, where there is one
abbrev pub trailings : Handle → Place → Option (List ℕ) → List Turn
trailings n place None = []
trailings n place (Some text) = After n place ∷ []

-- the text after all else in a value, where there is one
abbrev pub closings : Inner → List Turn
closings inner = if has_closing inner then Closing inner ∷ [] else []

-- the children of a node, by what stands in its value
abbrev pub children_turns : Inner → Handle → (children : List ℕ) → List Turn → List Turn
children_turns (Children place) n ns ts = visits place ns ++ ts
children_turns Quoted n ns ts = visits Flow ns ++ ts
children_turns Spaced n ns ts = visits Flow ns ++ ts
children_turns TableParts n ns ts = visits Groups ns ++ (visits Feet ns ++ ts)
children_turns Captioned n ns ts = visits Captions ns ++ Table n ∷ ts

-- a turn was done: with what is left the nodes come to the same
pub record IsDone (o : ConversionOptions) (styles : Styles) (f : Forest) (old : List Turn) (before : List RenderNode)
    (new : List Turn)
    (now : List RenderNode) : Type 0 where
  pub same : later o styles f new now ≡ later o styles f old before
  pub opened : AreOpen now new
  pub flat : IsFlat now
  pub falls : weight f new < weight f old
