-- No change takes a node away, and an element stays one.
use Rattle.std.proofs.Common.{◌≡◌, ◌≤◌, [], ◌∷◌, Bool, List, None, Option, Some, arith, false, refl, subst, sym, true}
use Rattle.std.proofs.Common.{ℕ}
use Rattle.tree_forest.specs.Changes.{contents_number, detached, made, made_element, saying, with_attributes}
use Rattle.tree_forest.specs.Forest.{Forest, IsElementKind, Kind, document, element, kind_at, nodes, text, text_of}
use Rattle.tree_forest.specs.Places.{Place, neighbour, put_node, put_words}
use Rattle.tree_forest.proofs.LawTexts.{new_text, new_text_after, text_more}
use Rattle.tree_forest.proofs.Nodes.{size_changed}
use Rattle.html_lexemes.specs.declared.names.Attribute.{Attribute}
use Rattle.html_lexemes.specs.declared.names.QualName.{QualName}
use Rattle.tree_model.specs.Laws.{Laws}
use Rattle.tree_model.specs.Words.{HasGrown}

as_many : (f g : Forest) → nodes g ≡ nodes f → nodes f ≤ nodes g
as_many f g same = omega (arith, same)

no_fewer : (f g h : Forest) → nodes f ≤ nodes g → nodes g ≤ nodes h → nodes f ≤ nodes h
no_fewer f g h one two = omega (arith, one, two)

element_still : (old new : Kind) → new ≡ old → IsElementKind old → IsElementKind new
element_still old new same is = subst IsElementKind (sym same) is

-- one change after another, none, and one that leaves each node what it is
pub grown_on : (f g h : Forest) → HasGrown f g → HasGrown g h → HasGrown f h
grown_on f g h one two = record {
  size = no_fewer f g h one.size two.size;
  elements = λ n is. two.elements n (one.elements n is);
}

pub grown_itself : (f : Forest) → HasGrown f f
grown_itself f = record { size = omega arith; elements = λ n is. is }

pub kinds_stay : (f g : Forest) → nodes g ≡ nodes f → ((n : ℕ) → kind_at n g ≡ kind_at n f) → HasGrown f g
kinds_stay f g same kinds = record {
  size = as_many f g same;
  elements = λ n is. element_still (kind_at n f) (kind_at n g) (kinds n) is;
}

module _ (laws : Laws) where
  leaf_size : (kind : Kind) (f : Forest) → nodes f ≤ nodes (made kind f)
  leaf_size kind f = omega (arith, laws.size_leaf kind f)

  leaf_grows : (kind : Kind) (f : Forest) → HasGrown f (made kind f)
  leaf_grows kind f = record {
    size = leaf_size kind f;
    elements = λ n is. element_still (kind_at n f) (kind_at n (made kind f))
        (laws.leaf_stays kind n f (laws.element_there n f is)) is;
  }

  pub element_grows : (name : QualName) (attributes : List Attribute) (t p : Bool) (f : Forest) →
      HasGrown f (made_element name attributes t p f)
  element_grows name attributes true p f =
      let kind = element (record {
        name = name;
        attributes = attributes;
        contents = contents_number true f;
        integration_point = p;
      }) in
      grown_on f (made kind f) (made document (made kind f)) (leaf_grows kind f) (leaf_grows document (made kind f))
  element_grows name attributes false p f = leaf_grows _ f

  pub put_grows : (place : Place) (n : ℕ) (f g : Forest) → HasGrown f g → HasGrown f (put_node place n g)
  put_grows place n f g grows = grown_on f g (put_node place n g) grows
      (kinds_stay g (put_node place n g) (laws.put_size place n g) (λ m. laws.put_stays place n m g))

  pub put_leaf_grows : (place : Place) (kind : Kind) (f : Forest) →
      HasGrown f (put_node place (nodes f) (made kind f))
  put_leaf_grows place kind f = put_grows place (nodes f) f (made kind f) (leaf_grows kind f)

  words_after : (place : Place) (c : ℕ) (cs : List ℕ) (n : ℕ) (f : Forest) (said : Option (List ℕ)) →
      neighbour place f ≡ Some n → text_of (kind_at n f) ≡ said → nodes f ≤ nodes (put_words place (c ∷ cs) f)
  words_after place c cs n f None e k = subst (λ g. nodes f ≤ nodes g)
      (sym (new_text_after place c cs n f e k)) (put_leaf_grows place (text (c ∷ cs)) f).size
  words_after place c cs n f (Some said) e k = subst (λ g. nodes f ≤ nodes g)
      (sym (text_more place c cs said n f e k)) (as_many f _ (size_changed n (saying (c ∷ cs)) f))

  words_by : (place : Place) (c : ℕ) (cs : List ℕ) (f : Forest) (found : Option ℕ) → neighbour place f ≡ found →
      nodes f ≤ nodes (put_words place (c ∷ cs) f)
  words_by place c cs f None e = subst (λ g. nodes f ≤ nodes g) (sym (new_text place c cs f e))
      (put_leaf_grows place (text (c ∷ cs)) f).size
  words_by place c cs f (Some n) e = words_after place c cs n f (text_of (kind_at n f)) e refl

  words_size : (place : Place) (cs : List ℕ) (f : Forest) → nodes f ≤ nodes (put_words place cs f)
  words_size place [] f = omega arith
  words_size place (c ∷ cs) f = words_by place c cs f (neighbour place f) refl

  pub words_grow : (place : Place) (cs : List ℕ) (f : Forest) → HasGrown f (put_words place cs f)
  words_grow place cs f = record {
    size = words_size place cs f;
    elements = λ n is. element_still (kind_at n f) (kind_at n (put_words place cs f))
        (laws.words_stay place cs n f is) is;
  }

  pub out_grows : (n : ℕ) (f : Forest) → HasGrown f (detached n f)
  out_grows n f = kinds_stay f (detached n f) (laws.out_size n f) (λ m. laws.out_stays n m f)

  pub attributes_grow : (n : ℕ) (more : List Attribute) (f : Forest) → HasGrown f (with_attributes n more f)
  attributes_grow n more f = record {
    size = as_many f (with_attributes n more f) (laws.attributes_size n more f);
    elements = λ m is. laws.attributes_stay n m more f is;
  }
