-- To be equal up to the numbers of nodes is an equivalence.
use Rattle.std.proofs.Common.{◌≡◌, ℕ, inl, inr, List, [], ◌∷◌, Option, None, Some, map, refl, sym, ap, ap₂, ◌∙◌, map-id}
use Rattle.std.proofs.lemmas.Simd.{map-map}
use Rattle.tree_forest.specs.Alike.{AreAlike, kind_by, node_by, number_by}
use Rattle.tree_forest.specs.Forest.{Element, Forest, Holds, Kind, Node, children_at, comment, doctype, document}
use Rattle.tree_forest.specs.Forest.{element, element_of, instruction, kind_at, node_at, text}
use Rattle.tree_forest.specs.Orders.{IsForest, IsIn, of_child, of_contents}
use Rattle.tree_forest.proofs.Nodes.{node_of}

abbrev with_number : Element → Option ℕ → Kind
with_number e contents = element (record e { contents = contents })

-- a forest is alike itself
number_itself : (o : Option ℕ) → number_by (λ n. n) o ≡ o
number_itself None = refl
number_itself (Some n) = refl

kind_itself : (kind : Kind) → kind_by (λ n. n) kind ≡ kind
kind_itself document = refl
kind_itself (doctype _ _ _) = refl
kind_itself (text _) = refl
kind_itself (comment _) = refl
kind_itself (instruction _ _) = refl
kind_itself (element e) = ap (with_number e) (number_itself e.contents)

pub alike_itself : (f : Forest) → AreAlike f f
alike_itself f = record {
  to = λ n. n;
  from = λ n. n;
  is_sent = λ n h. h;
  is_met = λ n h. h;
  goes_back = λ n h. refl;
  comes_back = λ n h. refl;
  page = refl;
  same = λ n h. sym (ap₂ node_of (kind_itself (kind_at n f)) (map-id (children_at n f)));
}

-- numbers that are sent there and back, where all of a node's are
numbers_back : (to from : ℕ → ℕ) (ns : List ℕ) → ((c : ℕ) → IsIn c ns → from (to c) ≡ c) → map from (map to ns) ≡ ns
numbers_back to from [] h = refl
numbers_back to from (n ∷ ns) h =
    ap₂ (λ m ms. m ∷ ms) (h n (inl refl)) (numbers_back to from ns (λ c i. h c (inr i)))

number_back : (to from : ℕ → ℕ) (o : Option ℕ) → ((c : ℕ) → o ≡ Some c → from (to c) ≡ c)
    → number_by from (number_by to o) ≡ o
number_back to from None h = refl
number_back to from (Some n) h = ap Some (h n refl)

kind_back : (to from : ℕ → ℕ) (kind : Kind) → ((c : ℕ) → (element_of kind).contents ≡ Some c → from (to c) ≡ c)
    → kind_by from (kind_by to kind) ≡ kind
kind_back to from document h = refl
kind_back to from (doctype _ _ _) h = refl
kind_back to from (text _) h = refl
kind_back to from (comment _) h = refl
kind_back to from (instruction _ _) h = refl
kind_back to from (element e) h = ap (with_number e) (number_back to from e.contents h)

node_back : (f g : Forest) (n : ℕ) → IsForest f → (a : AreAlike f g)
    → node_by a.from (node_by a.to (node_at n f)) ≡ node_at n f
node_back f g n forest a = ap₂ node_of
    (kind_back a.to a.from (kind_at n f) (λ c e. a.goes_back c (forest.within n c (of_contents n c e))))
    (numbers_back a.to a.from (children_at n f) (λ c i. a.goes_back c (forest.within n c (of_child n c i))))

back_at : (f g : Forest) (n : ℕ) → IsForest f → (a : AreAlike f g) → Holds n g
    → node_at (a.from n) f ≡ node_by a.from (node_at n g)
back_at f g n forest a h = sym (node_back f g (a.from n) forest a)
    ∙ ap (node_by a.from) (sym (a.same (a.from n) (a.is_met n h)) ∙ ap (λ m. node_at m g) (a.comes_back n h))

pub alike_back : (f g : Forest) → IsForest f → AreAlike f g → AreAlike g f
alike_back f g forest a = record {
  to = a.from;
  from = a.to;
  is_sent = a.is_met;
  is_met = a.is_sent;
  goes_back = a.comes_back;
  comes_back = a.goes_back;
  page = ap a.from (sym a.page) ∙ a.goes_back 0 forest.page.0;
  same = λ n h. back_at f g n forest a h;
}

-- numbers that are sent on
number_on : (to on : ℕ → ℕ) (o : Option ℕ) → number_by on (number_by to o) ≡ number_by (λ n. on (to n)) o
number_on to on None = refl
number_on to on (Some n) = refl

kind_on : (to on : ℕ → ℕ) (kind : Kind) → kind_by on (kind_by to kind) ≡ kind_by (λ n. on (to n)) kind
kind_on to on document = refl
kind_on to on (doctype _ _ _) = refl
kind_on to on (text _) = refl
kind_on to on (comment _) = refl
kind_on to on (instruction _ _) = refl
kind_on to on (element e) = ap (with_number e) (number_on to on e.contents)

node_on : (to on : ℕ → ℕ) (x : Node) → node_by on (node_by to x) ≡ node_by (λ n. on (to n)) x
node_on to on x = ap₂ node_of (kind_on to on x.kind) (map-map on to x.children)

pub alike_on : (f g h : Forest) → AreAlike f g → AreAlike g h → AreAlike f h
alike_on f g h a b = record {
  to = λ n. b.to (a.to n);
  from = λ n. a.from (b.from n);
  is_sent = λ n i. b.is_sent (a.to n) (a.is_sent n i);
  is_met = λ n i. a.is_met (b.from n) (b.is_met n i);
  goes_back = λ n i. ap a.from (b.goes_back (a.to n) (a.is_sent n i)) ∙ a.goes_back n i;
  comes_back = λ n i. ap b.to (a.comes_back (b.from n) (b.is_met n i)) ∙ b.comes_back n i;
  page = ap b.to a.page ∙ b.page;
  same = λ n i. b.same (a.to n) (a.is_sent n i) ∙ ap (node_by b.to) (a.same n i) ∙ node_on a.to b.to (node_at n f);
}
