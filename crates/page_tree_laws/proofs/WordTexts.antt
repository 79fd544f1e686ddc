-- Characters that are put into a forest are in its texts, each as often as it was said.
use Rattle.std.proofs.Common.{◌≡◌, ◌+◌, ◌≤◌, [], ◌∷◌, ◌++◌, if◌then◌else◌, ◌==◌, ◌∙◌, List, None, Option, Some, arith}
use Rattle.std.proofs.Common.{refl, subst, suc, sym, zero, ℕ}
use Rattle.tree_forest.specs.Changes.{changed, made, saying, saying_kind}
use Rattle.tree_forest.specs.Forest.{Forest, Holds, Kind, comment, doctype, document, element, element_of, instruction}
use Rattle.tree_forest.specs.Forest.{kind_at, name_of, nodes, text, text_of}
use Rattle.tree_forest.specs.Places.{Place, neighbour, put_node, put_words}
use Rattle.page_tree_laws.proofs.ForestTexts.{Follows, further, names_changed, names_made, no_fewer, one_larger}
use Rattle.page_tree_laws.proofs.ForestTexts.{one_more, put_follows, size_changed, size_made, still_held, texts_made}
use Rattle.page_tree_laws.specs.KeptText.{characters_of, how_often, in_texts}

-- a forest that comes from another: its texts say some characters more, no node goes, and each element keeps its name
pub record Says (cs : List ℕ) (f g : Forest) : Type 0 where
  pub texts : (c : ℕ) → in_texts c g ≡ in_texts c f + how_often c cs
  pub names : (n : ℕ) → Holds n f → name_of n g ≡ name_of n f
  pub size : nodes f ≤ nodes g

made_says : (cs : List ℕ) (f : Forest) → Says cs f (made (text cs) f)
made_says cs f = record {
  texts = λ c. texts_made c (text cs) f;
  names = λ n held. names_made n (text cs) f held;
  size = one_larger (nodes f) (nodes (made (text cs) f)) (size_made (text cs) f);
}

-- characters more, in a text that is there or in a new one
together : (x y z u : ℕ) → u ≡ y + z → x + u ≡ (x + y) + z
together x y z u e = omega (arith, e)

pub how_often_append : (c : ℕ) (cs ds : List ℕ) → how_often c (cs ++ ds) ≡ how_often c cs + how_often c ds
how_often_append c [] ds = omega arith
how_often_append c (d ∷ cs) ds = together (if d == c then 1 else 0) (how_often c cs) (how_often c ds)
    (how_often c (cs ++ ds)) (how_often_append c cs ds)

kind_says : (c : ℕ) (cs said : List ℕ) (kind : Kind) → text_of kind ≡ Some said →
    how_often c (characters_of (saying_kind cs kind)) ≡ how_often c (characters_of kind) + how_often c cs
kind_says c cs said (text before_it) e = how_often_append c before_it cs
kind_says c cs said document e = absurd (cc)
kind_says c cs said (doctype name public system) e = absurd (cc)
kind_says c cs said (comment emitted) e = absurd (cc)
kind_says c cs said (instruction target emitted) e = absurd (cc)
kind_says c cs said (element x) e = absurd (cc)

named_kind : (cs : List ℕ) (kind : Kind) → (element_of (saying_kind cs kind)).name ≡ (element_of kind).name
named_kind cs (text before_it) = refl
named_kind cs document = refl
named_kind cs (doctype name public system) = refl
named_kind cs (comment emitted) = refl
named_kind cs (instruction target emitted) = refl
named_kind cs (element x) = refl

in_front_of : (x y z w : ℕ) → w ≡ x + z → w + y ≡ (x + y) + z
in_front_of x y z w e = omega (arith, e)

texts_said : (c : ℕ) (cs said : List ℕ) (n : ℕ) (f : Forest) → text_of (kind_at n f) ≡ Some said →
    in_texts c (changed n (saying cs) f) ≡ in_texts c f + how_often c cs
texts_said c cs said n [] e = absurd (let k : None ≡ Some said = e in cc)
texts_said c cs said zero (x ∷ f) e = in_front_of (how_often c (characters_of x.kind)) (in_texts c f)
    (how_often c cs) (how_often c (characters_of (saying_kind cs x.kind))) (kind_says c cs said x.kind e)
texts_said c cs said (suc n) (x ∷ f) e = one_more (in_texts c f) (how_often c cs)
    (in_texts c (changed n (saying cs) f)) (texts_said c cs said n f e) (how_often c (characters_of x.kind))

grown_says : (cs said : List ℕ) (n : ℕ) (f : Forest) → text_of (kind_at n f) ≡ Some said →
    Says cs f (changed n (saying cs) f)
grown_says cs said n f e = record {
  texts = λ c. texts_said c cs said n f e;
  names = λ m held. names_changed m (saying cs) (λ x. named_kind cs x.kind) n f;
  size = no_fewer (nodes f) (nodes (changed n (saying cs) f)) (size_changed n (saying cs) f);
}

pub says_then : (cs : List ℕ) (f g h : Forest) → Says cs f g → Follows g h → Says cs f h
says_then cs f g h said more = record {
  texts = λ c. more.texts c ∙ said.texts c;
  names = λ n held. more.names n (still_held n (nodes f) (nodes g) held said.size) ∙ said.names n held;
  size = further (nodes f) (nodes g) (nodes h) said.size more.size;
}

put_says : (place : Place) (cs : List ℕ) (f : Forest) → Says cs f (put_node place (nodes f) (made (text cs) f))
put_says place cs f = says_then cs f (made (text cs) f) (put_node place (nodes f) (made (text cs) f))
    (made_says cs f) (put_follows place (nodes f) (made (text cs) f))

new_text : (place : Place) (c : ℕ) (cs : List ℕ) (f : Forest) → neighbour place f ≡ None →
    put_words place (c ∷ cs) f ≡ put_node place (nodes f) (made (text (c ∷ cs)) f)
new_text place c cs f e = rw e

new_text_after : (place : Place) (c : ℕ) (cs : List ℕ) (n : ℕ) (f : Forest) → neighbour place f ≡ Some n →
    text_of (kind_at n f) ≡ None →
    put_words place (c ∷ cs) f ≡ put_node place (nodes f) (made (text (c ∷ cs)) f)
new_text_after place c cs n f e k = rw (e, k)

text_more : (place : Place) (c : ℕ) (cs said : List ℕ) (n : ℕ) (f : Forest) → neighbour place f ≡ Some n →
    text_of (kind_at n f) ≡ Some said → put_words place (c ∷ cs) f ≡ changed n (saying (c ∷ cs)) f
text_more place c cs said n f e k = rw (e, k)

by_text : (place : Place) (c : ℕ) (cs : List ℕ) (n : ℕ) (f : Forest) (said : Option (List ℕ)) →
    neighbour place f ≡ Some n → text_of (kind_at n f) ≡ said → Says (c ∷ cs) f (put_words place (c ∷ cs) f)
by_text place c cs n f None e k =
    subst (Says (c ∷ cs) f) (sym (new_text_after place c cs n f e k)) (put_says place (c ∷ cs) f)
by_text place c cs n f (Some said) e k =
    subst (Says (c ∷ cs) f) (sym (text_more place c cs said n f e k)) (grown_says (c ∷ cs) said n f k)

by_neighbour : (place : Place) (c : ℕ) (cs : List ℕ) (f : Forest) (found : Option ℕ) → neighbour place f ≡ found →
    Says (c ∷ cs) f (put_words place (c ∷ cs) f)
by_neighbour place c cs f None e =
    subst (Says (c ∷ cs) f) (sym (new_text place c cs f e)) (put_says place (c ∷ cs) f)
by_neighbour place c cs f (Some n) e = by_text place c cs n f (text_of (kind_at n f)) e refl

nothing_more : (x : ℕ) → x ≡ x + 0
nothing_more x = omega arith

-- characters at a place are in the texts, each as often as it was said
pub words_said : (place : Place) (cs : List ℕ) (f : Forest) → Says cs f (put_words place cs f)
words_said place [] f = record {
  texts = λ c. nothing_more (in_texts c f);
  names = λ n held. refl;
  size = omega arith;
}
words_said place (c ∷ cs) f = by_neighbour place c cs f (neighbour place f) refl
