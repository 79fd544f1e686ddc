-- The tree itself, planted node by node after what stands: a node's number is that of the nodes before it.
use Rattle.std.specs.Prelude.{ℕ, ◌+◌, suc, false, List, [], ◌∷◌, ◌++◌, None}
use Rattle.tree_forest.specs.Changes.{changed, made, made_element, with_more}
use Rattle.tree_forest.specs.Forest.{Forest, Node, element, nodes, text}
use Rattle.tree_forest.specs.Places.{below, put_node}
use Rattle.html_lexemes.specs.declared.names.Attribute.{Attribute}
use Rattle.html_lexemes.specs.declared.names.Namespace.TheVariants.{Html}
use Rattle.html_lexemes.specs.declared.names.QualName.{QualName}
use Rattle.document_laws.specs.Contents.{Content, none, say, span}

abbrev pub of_html : List ℕ → QualName
of_html name = record { ns = Html; local = name }

-- one node more, as the last child of another
abbrev pub with_text : ℕ → List ℕ → Forest → Forest
with_text p cs f = put_node (below p) (nodes f) (made (text cs) f)

abbrev pub with_new : ℕ → List ℕ → List Attribute → Forest → Forest
with_new p name attributes f = put_node (below p) (nodes f) (made_element (of_html name) attributes false false f)

abbrev pub planted : ℕ → Content → Forest → Forest
planted p none f = f
planted p (say c cs rest) f = planted p rest (with_text p (c ∷ cs) f)
planted p (span name attributes kids rest) f =
    planted p rest (planted (nodes f) kids (with_new p name attributes f))

-- The same at once: how many nodes there are, the outer ones among them, and all of them from a number on.
abbrev pub size : Content → ℕ
size none = 0
size (say c cs rest) = suc (size rest)
size (span name attributes kids rest) = suc (size kids + size rest)

abbrev pub roots : ℕ → Content → List ℕ
roots n none = []
roots n (say c cs rest) = n ∷ roots (suc n) rest
roots n (span name attributes kids rest) = n ∷ roots (suc n + size kids) rest

abbrev pub node_of_element : List ℕ → List Attribute → List ℕ → Node
node_of_element name attributes children = record {
  kind = element (record {
    name = of_html name;
    attributes = attributes;
    contents = None;
    integration_point = false;
  });
  children = children;
}

abbrev pub listed : ℕ → Content → Forest
listed n none = []
listed n (say c cs rest) = record { kind = text (c ∷ cs); children = [] } ∷ listed (suc n) rest
listed n (span name attributes kids rest) = node_of_element name attributes (roots (suc n) kids)
    ∷ listed (suc n) kids ++ listed (suc n + size kids) rest

abbrev pub standing : ℕ → Content → Forest → Forest
standing p content f = changed p (with_more (roots (nodes f) content)) f ++ listed (nodes f) content
