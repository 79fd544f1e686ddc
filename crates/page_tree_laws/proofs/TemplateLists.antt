-- How many templates are among some elements: of what is left of a stack no more than of the stack, and one less where
-- it is popped to a template.
use Rattle.std.proofs.Common.{◌≡◌, ◌+◌, ◌≤◌, ◌==◌, if◌then◌else◌, [], ◌∷◌, Bool, List, ap, arith, codes, false, inl}
use Rattle.std.proofs.Common.{inr, refl, true, ℕ}
use Rattle.tree_forest.specs.Changes.{left_out}
use Rattle.tree_forest.specs.Forest.{Forest, Holds, is_integration_point, name_of, nodes}
use Rattle.tree_forest.specs.Orders.{IsIn}
use Rattle.tree_forest.specs.Places.{put_before}
use Rattle.html_lexemes.specs.declared.names.QualName.{QualName}
use Rattle.html_tree_state.specs.Adoption.{replaced}
use Rattle.html_tree_state.specs.Foreign.{from_html}
use Rattle.html_tree_state.specs.Insertions.{is_template}
use Rattle.html_tree_state.specs.OpenElements.{below_current, below_first, farther, from_first, has_any}
use Rattle.html_tree_state.specs.Scopes.{without_implied}
use Rattle.tree_names.specs.Sets.{Elements, is_element_of, is_html}
use Rattle.tree_names.specs.Wanted.{is_implied, one}
use Rattle.tree_predicates.specs.Foreign.{stops_break_out}

abbrev pub templates_in : Forest → List ℕ → ℕ
templates_in f [] = 0
templates_in f (n ∷ ns) = (if is_template n f then 1 else 0) + templates_in f ns

-- some elements have no more templates among them than others
abbrev pub AreFewer : Forest → List ℕ → List ℕ → Type 0
AreFewer f ms ns = templates_in f ms ≤ templates_in f ns

pub same_fewer : (x y : ℕ) → x ≡ y → x ≤ y
same_fewer x y e = omega (arith, e)

pub fewer_on : (x y z : ℕ) → x ≤ y → y ≤ z → x ≤ z
fewer_on x y z h i = omega (arith, h, i)

one_more : (k x y : ℕ) → x ≤ y → x ≤ k + y
one_more k x y h = omega (arith, h)

both_more : (k x y : ℕ) → x ≤ y → k + x ≤ k + y
both_more k x y h = omega (arith, h)

no_fewer : (x : ℕ) → x ≤ x
no_fewer x = omega arith

pub all_fewer : (f : Forest) (ns : List ℕ) → AreFewer f ns ns
all_fewer f ns = no_fewer (templates_in f ns)

fewer_by : (b : Bool) (f : Forest) (ms ks ns : List ℕ) → AreFewer f ms ns → AreFewer f ks ns →
    AreFewer f (if b then ms else ks) ns
fewer_by true f ms ks ns g h = g
fewer_by false f ms ks ns g h = h

deeper : (f : Forest) (n : ℕ) (ms ns : List ℕ) → AreFewer f ms ns → AreFewer f ms (n ∷ ns)
deeper f n ms ns h = one_more (if is_template n f then 1 else 0) (templates_in f ms) (templates_in f ns) h

with_first : (f : Forest) (n : ℕ) (ms ns : List ℕ) → AreFewer f ms ns → AreFewer f (n ∷ ms) (n ∷ ns)
with_first f n ms ns h = both_more (if is_template n f then 1 else 0) (templates_in f ms) (templates_in f ns) h

-- what is left of a stack
pub below_current_fewer : (f : Forest) (ns : List ℕ) → AreFewer f (below_current ns) ns
below_current_fewer f [] = all_fewer f []
below_current_fewer f (n ∷ ns) = deeper f n ns ns (all_fewer f ns)

pub below_first_fewer : (set : Elements) (f : Forest) (ns : List ℕ) → AreFewer f (below_first set f ns) ns
below_first_fewer set f [] = all_fewer f []
below_first_fewer set f (n ∷ ns) = fewer_by (is_element_of set (name_of n f)) f ns (below_first set f ns) (n ∷ ns)
    (deeper f n ns ns (all_fewer f ns)) (deeper f n (below_first set f ns) ns (below_first_fewer set f ns))

pub from_first_fewer : (set : Elements) (f : Forest) (ns : List ℕ) → AreFewer f (from_first set f ns) ns
from_first_fewer set f [] = all_fewer f []
from_first_fewer set f (n ∷ ns) = fewer_by (is_element_of set (name_of n f)) f (n ∷ ns) (from_first set f ns) (n ∷ ns)
    (all_fewer f (n ∷ ns)) (deeper f n (from_first set f ns) ns (from_first_fewer set f ns))

pub from_html_fewer : (f : Forest) (ns : List ℕ) → AreFewer f (from_html f ns) ns
from_html_fewer f [] = all_fewer f []
from_html_fewer f (n ∷ ns) = fewer_by (stops_break_out (name_of n f) (is_integration_point n f)) f (n ∷ ns)
    (from_html f ns) (n ∷ ns) (all_fewer f (n ∷ ns)) (deeper f n (from_html f ns) ns (from_html_fewer f ns))

pub without_implied_fewer : (except : Elements) (f : Forest) (ns : List ℕ) →
    AreFewer f (without_implied except f ns) ns
without_implied_fewer except f [] = all_fewer f []
without_implied_fewer except f (n ∷ ns) = fewer_by (is_implied except (name_of n f)) f (without_implied except f ns)
    (n ∷ ns) (n ∷ ns) (deeper f n (without_implied except f ns) ns (without_implied_fewer except f ns))
    (all_fewer f (n ∷ ns))

pub left_out_fewer : (m : ℕ) (f : Forest) (ns : List ℕ) → AreFewer f (left_out m ns) ns
left_out_fewer m f [] = all_fewer f []
left_out_fewer m f (n ∷ ns) = fewer_by (n == m) f (left_out m ns) (n ∷ left_out m ns) (n ∷ ns)
    (deeper f n (left_out m ns) ns (left_out_fewer m f ns)) (with_first f n (left_out m ns) ns (left_out_fewer m f ns))

pub farther_fewer : (m : ℕ) (f : Forest) (ns : List ℕ) → AreFewer f (farther m ns) ns
farther_fewer m f [] = all_fewer f []
farther_fewer m f (n ∷ ns) = fewer_by (n == m) f ns (farther m ns) (n ∷ ns)
    (deeper f n ns ns (all_fewer f ns)) (deeper f n (farther m ns) ns (farther_fewer m f ns))

-- another element that is no template, in the place of one or before one
none_by : (b : Bool) (x y : ℕ) → b ≡ false → x ≤ y → (if b then 1 else 0) + x ≤ y
none_by true x y e h = absurd (let k : true ≡ false = e in cc)
none_by false x y e h = omega (arith, h)

pub other_first : (f : Forest) (c : ℕ) (ms ns : List ℕ) → is_template c f ≡ false → AreFewer f ms ns →
    AreFewer f (c ∷ ms) ns
other_first f c ms ns is h = none_by (is_template c f) (templates_in f ms) (templates_in f ns) is h

replaced_by : (b : Bool) (f : Forest) (c n : ℕ) (ms ns : List ℕ) → is_template c f ≡ false → AreFewer f ms ns →
    AreFewer f ((if b then c else n) ∷ ms) (n ∷ ns)
replaced_by true f c n ms ns is h = other_first f c ms (n ∷ ns) is (deeper f n ms ns h)
replaced_by false f c n ms ns is h = with_first f n ms ns h

pub replaced_fewer : (m c : ℕ) (f : Forest) (ns : List ℕ) → is_template c f ≡ false →
    AreFewer f (replaced m c ns) ns
replaced_fewer m c f [] is = all_fewer f []
replaced_fewer m c f (n ∷ ns) is =
    replaced_by (n == m) f c n (replaced m c ns) ns is (replaced_fewer m c f ns is)

pub put_before_fewer : (s c : ℕ) (f : Forest) (ns : List ℕ) → is_template c f ≡ false →
    AreFewer f (put_before s c ns) ns
put_before_fewer s c f [] is = all_fewer f []
put_before_fewer s c f (n ∷ ns) is = fewer_by (n == s) f (c ∷ n ∷ ns) (n ∷ put_before s c ns) (n ∷ ns)
    (other_first f c (n ∷ ns) (n ∷ ns) is (all_fewer f (n ∷ ns)))
    (with_first f n (put_before s c ns) ns (put_before_fewer s c f ns is))

-- a forest that comes from another: no node goes, and each element keeps its name
pub record KeepsNames (f h : Forest) : Type 0 where
  pub names : (n : ℕ) → Holds n f → name_of n h ≡ name_of n f
  pub size : nodes f ≤ nodes h

both_same : (x y p q : ℕ) → x ≡ y → p ≡ q → x + p ≡ y + q
both_same x y p q e h = omega (arith, e, h)

-- elements that are there stay as many templates
pub as_many : (f h : Forest) (ns : List ℕ) → KeepsNames f h → ((n : ℕ) → IsIn n ns → Holds n f) →
    templates_in h ns ≡ templates_in f ns
as_many f h [] keeps held = refl
as_many f h (n ∷ ns) keeps held =
    both_same (if is_template n h then 1 else 0) (if is_template n f then 1 else 0) (templates_in h ns)
    (templates_in f ns)
    (ap (λ (name : QualName). if is_html (codes "template") name then 1 else 0) (keeps.names n (held n (inl refl))))
    (as_many f h ns keeps (λ m i. held m (inr i)))

-- one less, where elements are popped to a template
first_popped : (b has : Bool) (f : Forest) (ms ns : List ℕ) → (if b then true else has) ≡ true →
    (has ≡ true → 1 + templates_in f ms ≤ templates_in f ns) →
    1 + templates_in f (if b then ns else ms) ≤ (if b then 1 else 0) + templates_in f ns
first_popped true has f ms ns is more = no_fewer (1 + templates_in f ns)
first_popped false has f ms ns is more = one_more 0 (1 + templates_in f ms) (templates_in f ns) (more is)

pub one_template_less : (f : Forest) (ns : List ℕ) → has_any (one (codes "template")) f ns ≡ true →
    1 + templates_in f (below_first (one (codes "template")) f ns) ≤ templates_in f ns
one_template_less f [] is = absurd (let k : false ≡ true = is in cc)
one_template_less f (n ∷ ns) is = first_popped (is_template n f) (has_any (one (codes "template")) f ns) f
    (below_first (one (codes "template")) f ns) ns is (one_template_less f ns)
