-- The nodes of a page, by their numbers (WHATWG DOM, 4.2 to 4.10): what each is, and its children in order.
use Rattle.std.specs.Prelude.{◌<◌, [], ◌∷◌, ◌==◌, if◌then◌else◌, Bool, List, None, Option, Some, false, length, suc}
use Rattle.std.specs.Prelude.{true, zero, ℕ}
use Rattle.html_lexemes.specs.declared.names.Attribute.{Attribute}
use Rattle.html_lexemes.specs.declared.names.Namespace.TheVariants.{Other}
use Rattle.html_lexemes.specs.declared.names.QualName.{QualName}

-- An element: a template has the number of the node that holds its contents.
pub record Element : Type 0 where
  pub name : QualName
  pub attributes : List Attribute
  pub contents : Option ℕ
  pub integration_point : Bool

-- What a node is. A document is the page's, or what holds a template's contents; a doctype has a name, a public and a
-- system identifier, an instruction a target and its data.
pub data Kind : Type 0 where
  document : Kind
  doctype : List ℕ → List ℕ → List ℕ → Kind
  text : List ℕ → Kind
  comment : List ℕ → Kind
  instruction : List ℕ → List ℕ → Kind
  element : Element → Kind

pub record Node : Type 0 where
  pub kind : Kind
  pub children : List ℕ

-- node 0 is the page's document
abbrev pub Forest : Type 0
Forest = List Node

-- how many nodes there are; the next one that is made has this number
abbrev pub nodes : Forest → ℕ
nodes f = length f

abbrev pub Holds : ℕ → Forest → Type 0
Holds n f = n < nodes f

-- a node; past the last one a document without children
abbrev pub node_at : ℕ → Forest → Node
node_at n [] = record { kind = document; children = [] }
node_at zero (x ∷ f) = x
node_at (suc n) (x ∷ f) = node_at n f

abbrev pub kind_at : ℕ → Forest → Kind
kind_at n f = (node_at n f).kind

abbrev pub children_at : ℕ → Forest → List ℕ
children_at n f = (node_at n f).children

-- whether a node is an element, and what an element has; of another node nothing
abbrev pub IsElementKind : Kind → Type 0
IsElementKind (element e) = Unit {0}
IsElementKind document = ⊥
IsElementKind (doctype name public system) = ⊥
IsElementKind (text cs) = ⊥
IsElementKind (comment cs) = ⊥
IsElementKind (instruction target cs) = ⊥

abbrev pub IsElement : ℕ → Forest → Type 0
IsElement n f = IsElementKind (kind_at n f)

abbrev pub no_element : Element
no_element = record {
  name = record { ns = Other []; local = [] };
  attributes = [];
  contents = None;
  integration_point = false;
}

abbrev pub element_of : Kind → Element
element_of (element e) = e
element_of document = no_element
element_of (doctype name public system) = no_element
element_of (text cs) = no_element
element_of (comment cs) = no_element
element_of (instruction target cs) = no_element

abbrev pub name_of : ℕ → Forest → QualName
name_of n f = (element_of (kind_at n f)).name

abbrev pub attributes_of : ℕ → Forest → List Attribute
attributes_of n f = (element_of (kind_at n f)).attributes

-- the node that holds a template's contents
abbrev pub contents_of : ℕ → Forest → Option ℕ
contents_of n f = (element_of (kind_at n f)).contents

abbrev pub is_integration_point : ℕ → Forest → Bool
is_integration_point n f = (element_of (kind_at n f)).integration_point

-- the characters of a text node
abbrev pub text_of : Kind → Option (List ℕ)
text_of (text cs) = Some cs
text_of document = None
text_of (doctype name public system) = None
text_of (comment cs) = None
text_of (instruction target cs) = None
text_of (element e) = None

-- whether a number is among others
abbrev pub is_in : ℕ → List ℕ → Bool
is_in n [] = false
is_in n (m ∷ ms) = if n == m then true else is_in n ms

-- the first node that has another among its children
abbrev pub parent_from : ℕ → ℕ → Forest → Option ℕ
parent_from n at [] = None
parent_from n at (x ∷ f) = if is_in n x.children then Some at else parent_from n (suc at) f

abbrev pub parent_of : ℕ → Forest → Option ℕ
parent_of n f = parent_from n 0 f

-- a page without nodes but its document
abbrev pub page_alone : Forest
page_alone = record { kind = document; children = [] } ∷ []
