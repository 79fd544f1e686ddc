-- An element stays what it is, whatever is made, said or added.
use Rattle.std.proofs.Common.{◌≡◌, ℕ, zero, suc, refl, ap, ◌∙◌, Bool, true, false, List, [], ◌∷◌, arith}
use Rattle.html_lexemes.specs.declared.names.Attribute.{Attribute}
use Rattle.html_lexemes.specs.declared.names.QualName.{QualName}
use Rattle.tree_forest.specs.Changes.{kind_with, made, made_element, saying, saying_kind, with_attributes}
use Rattle.tree_forest.specs.Forest.{Forest, Holds, IsElement, IsElementKind, Kind, comment, doctype, document, element}
use Rattle.tree_forest.specs.Forest.{instruction, kind_at, nodes, text}
use Rattle.tree_forest.specs.Places.{Place, put_words}
use Rattle.tree_forest.proofs.LawPlaces.{put_kinds}
use Rattle.tree_forest.proofs.Nodes.{attributed, changed_has, kind_made, size_made}
use Rattle.tree_forest.proofs.PathLemmas.{words_are}
use Rattle.tree_forest.proofs.Relations.{either}

-- an element is there
pub element_held : (n : ℕ) (f : Forest) → IsElement n f → Holds n f
element_held n [] is = absurd is
element_held zero (x ∷ f) is = omega arith
element_held (suc n) (x ∷ f) is = let held : Holds n f = element_held n f is in omega arith

-- two nodes that are made leave the old ones
twice_made : (kind : Kind) (n : ℕ) (f : Forest) → Holds n f → kind_at n (made document (made kind f)) ≡ kind_at n f
twice_made kind n f held =
    let size = size_made kind f in
    let more : Holds n (made kind f) = omega arith in
    kind_made n document (made kind f) more ∙ kind_made n kind f held

pub kind_made_element : (name : QualName) (attributes : List Attribute) (is_template point : Bool) (n : ℕ)
    (f : Forest) → Holds n f → kind_at n (made_element name attributes is_template point f) ≡ kind_at n f
kind_made_element name attributes true point n f held = twice_made _ n f held
kind_made_element name attributes false point n f held = kind_made n _ f held

-- an element says nothing more, and stays one with attributes more
element_said : (cs : List ℕ) (kind : Kind) → IsElementKind kind → saying_kind cs kind ≡ kind
element_said cs document is = absurd is
element_said cs (doctype _ _ _) is = absurd is
element_said cs (text _) is = absurd is
element_said cs (comment _) is = absurd is
element_said cs (instruction _ _) is = absurd is
element_said cs (element _) is = refl

element_with : (more : List Attribute) (kind : Kind) → IsElementKind kind → IsElementKind (kind_with more kind)
element_with more document is = absurd is
element_with more (doctype _ _ _) is = absurd is
element_with more (text _) is = absurd is
element_with more (comment _) is = absurd is
element_with more (instruction _ _) is = absurd is
element_with more (element _) is = tt

pub element_words : (place : Place) (cs : List ℕ) (n : ℕ) (f : Forest) → IsElement n f →
    kind_at n (put_words place cs f) ≡ kind_at n f
element_words place [] n f is = refl
element_words place (c ∷ cs) n f is = either
    (λ new. ap (kind_at n) new ∙ put_kinds place (nodes f) n (made (text (c ∷ cs)) f)
    ∙ kind_made n (text (c ∷ cs)) f (element_held n f is))
    (λ more. ap (kind_at n) more.1 ∙ changed_has (λ x. x.kind ≡ kind_at n f) n more.0 (saying (c ∷ cs)) f refl
    (λ _. element_said (c ∷ cs) (kind_at n f) is))
    (words_are place c cs f)

pub element_attributes : (n m : ℕ) (more : List Attribute) (f : Forest) → IsElement m f →
    IsElement m (with_attributes n more f)
element_attributes n m more f is = changed_has (λ x. IsElementKind x.kind) m n (attributed more) f is
    (λ _. element_with more (kind_at m f) is)
