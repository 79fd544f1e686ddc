-- Changes of nodes: a node is made, changed, taken out, or loses its children to another (WHATWG DOM, 4.2.3).
use Rattle.std.specs.Prelude.{◌+◌, ◌||◌, [], ◌∷◌, ◌++◌, ◌==◌, if◌then◌else◌, Bool, List, None, Option, Some, false, map}
use Rattle.std.specs.Prelude.{suc, true, zero, ℕ}
use Rattle.html_lexemes.specs.contracts.names.QualNamePartialEq.TheImpl as names
use Rattle.html_lexemes.specs.declared.names.Attribute.{Attribute}
use Rattle.html_lexemes.specs.declared.names.QualName.{QualName}
use Rattle.tree_forest.specs.Forest.{Forest, Kind, Node, children_at, comment, doctype, document, element, instruction}
use Rattle.tree_forest.specs.Forest.{nodes, text}

abbrev pub changed : ℕ → (Node → Node) → Forest → Forest
changed n g [] = []
changed zero g (x ∷ f) = g x ∷ f
changed (suc n) g (x ∷ f) = x ∷ changed n g f

-- a node more, without parent and children
abbrev pub made : Kind → Forest → Forest
made kind f = f ++ record { kind = kind; children = [] } ∷ []

-- An element more. A template is made with a node that holds its contents, after it.
abbrev pub contents_number : Bool → Forest → Option ℕ
contents_number true f = Some (nodes f + 1)
contents_number false f = None

abbrev pub with_contents : Bool → Forest → Forest
with_contents true f = made document f
with_contents false f = f

abbrev pub made_element : QualName → List Attribute → (is_template integration_point : Bool) → Forest → Forest
made_element name attributes is_template integration_point f = with_contents is_template (made (element (record {
  name = name;
  attributes = attributes;
  contents = contents_number is_template f;
  integration_point = integration_point;
})) f)

-- a text says these characters more
abbrev pub saying_kind : List ℕ → Kind → Kind
saying_kind cs (text before) = text (before ++ cs)
saying_kind cs document = document
saying_kind cs (doctype name public system) = doctype name public system
saying_kind cs (comment said) = comment said
saying_kind cs (instruction target said) = instruction target said
saying_kind cs (element e) = element e

abbrev pub saying : List ℕ → Node → Node
saying cs x = record { kind = saying_kind cs x.kind; children = x.children }

-- a node is taken out of its parent's children
abbrev pub left_out : ℕ → List ℕ → List ℕ
left_out n [] = []
left_out n (m ∷ ms) = if m == n then left_out n ms else m ∷ left_out n ms

abbrev pub without_child : ℕ → Node → Node
without_child n x = record { kind = x.kind; children = left_out n x.children }

abbrev pub detached : ℕ → Forest → Forest
detached n f = map (without_child n) f

-- the children of a node go after those of another
abbrev pub childless : Node → Node
childless x = record { kind = x.kind; children = [] }

abbrev pub with_more : List ℕ → Node → Node
with_more ns x = record { kind = x.kind; children = x.children ++ ns }

abbrev pub reparented : ℕ → ℕ → Forest → Forest
reparented old new f = changed new (with_more (children_at old f)) (changed old childless f)

-- attributes whose names are missing are added, in order
abbrev pub has_name : QualName → List Attribute → Bool
has_name name [] = false
has_name name (a ∷ rest) = names.eq-value.it name a.name || has_name name rest

abbrev pub with_missing : List Attribute → List Attribute → List Attribute
with_missing held [] = held
with_missing held (a ∷ rest) =
    if has_name a.name held then with_missing held rest else with_missing (held ++ a ∷ []) rest

abbrev pub kind_with : List Attribute → Kind → Kind
kind_with more (element e) = element (record e { attributes = with_missing e.attributes more })
kind_with more document = document
kind_with more (doctype name public system) = doctype name public system
kind_with more (text cs) = text cs
kind_with more (comment cs) = comment cs
kind_with more (instruction target cs) = instruction target cs

abbrev pub with_attributes : ℕ → List Attribute → Forest → Forest
with_attributes n more f = changed n (λ x. record { kind = kind_with more x.kind; children = x.children }) f
