-- Attributes that are added to an element.
use Rattle.std.proofs.Common.{◌≡◌, ℕ, List, refl, ap, ◌∙◌}
use Rattle.html_lexemes.specs.declared.names.Attribute.{Attribute}
use Rattle.tree_forest.specs.Changes.{kind_with, with_attributes, with_missing}
use Rattle.tree_forest.specs.Forest.{Forest, Holds, IsElement, IsElementKind, Kind, attributes_of, children_at, comment}
use Rattle.tree_forest.specs.Forest.{contents_of, doctype, document, element, element_of, instruction, kind_at, name_of}
use Rattle.tree_forest.specs.Forest.{text}
use Rattle.tree_forest.proofs.LawNodes.{changed_here}
use Rattle.tree_forest.proofs.Nodes.{attributed, contents_with, kept}

kind_attributes : (more : List Attribute) (kind : Kind) → IsElementKind kind
    → (element_of (kind_with more kind)).attributes ≡ with_missing (element_of kind).attributes more
kind_attributes more document h = absurd h
kind_attributes more (doctype _ _ _) h = absurd h
kind_attributes more (text _) h = absurd h
kind_attributes more (comment _) h = absurd h
kind_attributes more (instruction _ _) h = absurd h
kind_attributes more (element _) h = refl

kind_name : (more : List Attribute) (kind : Kind) → (element_of (kind_with more kind)).name ≡ (element_of kind).name
kind_name more document = refl
kind_name more (doctype _ _ _) = refl
kind_name more (text _) = refl
kind_name more (comment _) = refl
kind_name more (instruction _ _) = refl
kind_name more (element _) = refl

pub added : (n : ℕ) (more : List Attribute) (f : Forest) → Holds n f → IsElement n f
    → attributes_of n (with_attributes n more f) ≡ with_missing (attributes_of n f) more
added n more f h is = ap (λ x. (element_of x.kind).attributes) (changed_here (attributed more) n f h)
    ∙ kind_attributes more (kind_at n f) is

pub name_stays : (n m : ℕ) (more : List Attribute) (f : Forest) → name_of m (with_attributes n more f) ≡ name_of m f
name_stays n m more f = kept (λ x. (element_of x.kind).name) (attributed more) n m f (λ x. kind_name more x.kind)

pub contents_stay_at : (n m : ℕ) (more : List Attribute) (f : Forest) →
    contents_of m (with_attributes n more f) ≡ contents_of m f
contents_stay_at n m more f =
    kept (λ x. (element_of x.kind).contents) (attributed more) n m f (λ x. contents_with more x.kind)

pub names_stay : (n : ℕ) (more : List Attribute) (f : Forest) → name_of n (with_attributes n more f) ≡ name_of n f
names_stay n more f = name_stays n n more f

pub contents_stay : (n : ℕ) (more : List Attribute) (f : Forest)
    → contents_of n (with_attributes n more f) ≡ contents_of n f
contents_stay n more f = contents_stay_at n n more f

pub children_stay : (n q : ℕ) (more : List Attribute) (f : Forest)
    → children_at q (with_attributes n more f) ≡ children_at q f
children_stay n q more f = kept (λ x. x.children) (attributed more) n q f (λ x. refl)
