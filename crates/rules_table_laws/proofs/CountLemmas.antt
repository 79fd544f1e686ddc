-- How many tables and templates are open once elements are popped (WHATWG HTML, 13.2.4.2 and 13.2.6.3).
use Rattle.std.proofs.Common.{◌≡◌, ◌≤◌, ◌<◌, ◌+◌, ◌||◌, if◌then◌else◌, [], ◌∷◌, Bool, List, ap₂, arith, bytes_eq, codes}
use Rattle.std.proofs.Common.{false, inl, inr, refl, subst, true, ℕ}
use Rattle.std.proofs.lemmas.Slice.Eq.{bytes_eq-Decides}
use Rattle.tree_forest.specs.Forest.{Forest, is_integration_point, name_of}
use Rattle.tree_forest.specs.Orders.{IsIn}
use Rattle.html_lexemes.specs.declared.names.Namespace.{Namespace}
use Rattle.html_lexemes.specs.declared.names.Namespace.TheVariants.{Html, MathMl, Other, Svg}
use Rattle.html_lexemes.specs.declared.names.QualName.{QualName}
use Rattle.html_tree_state.specs.Foreign.{from_html}
use Rattle.html_tree_state.specs.OpenElements.{below_current, below_first, from_first, has_any, up_to}
use Rattle.html_tree_state.specs.Scopes.{without_implied}
use Rattle.tree_names.specs.Sets.{Elements, is_element_of, is_one_of, words_in}
use Rattle.tree_names.specs.TagSets.{formatting}
use Rattle.tree_names.specs.Wanted.{is_implied, one}
use Rattle.rules_table.specs.Rank.{how_many, tables_and_templates}
use Rattle.tree_predicates.specs.Foreign.{stops_break_out}

abbrev pub is_counted : QualName → Bool
is_counted name = is_element_of tables_and_templates name

pub on : (x y z : ℕ) → x ≤ y → y ≤ z → x ≤ z
on x y z h i = omega arith

-- what is left of the stack holds no more of them
below_by : (b : Bool) (w : ℕ) (f : Forest) (ns ms : List ℕ) → how_many f ms ≤ how_many f ns →
    how_many f (if b then ns else ms) ≤ w + how_many f ns
below_by true w f ns ms h = omega arith
below_by false w f ns ms h = omega (arith, h)

pub below_first_fewer : (set : Elements) (f : Forest) (ns : List ℕ) →
    how_many f (below_first set f ns) ≤ how_many f ns
below_first_fewer set f [] = omega arith
below_first_fewer set f (n ∷ ns) = below_by (is_element_of set (name_of n f)) _ f ns (below_first set f ns)
    (below_first_fewer set f ns)

stays_by : (b : Bool) (f : Forest) (n : ℕ) (ns ms : List ℕ) → how_many f ms ≤ how_many f ns →
    how_many f (if b then n ∷ ns else ms) ≤ how_many f (n ∷ ns)
stays_by true f n ns ms h = omega arith
stays_by false f n ns ms h = omega (arith, h)

goes_by : (b : Bool) (f : Forest) (n : ℕ) (ns ms : List ℕ) → how_many f ms ≤ how_many f ns →
    how_many f (if b then ms else n ∷ ns) ≤ how_many f (n ∷ ns)
goes_by true f n ns ms h = omega (arith, h)
goes_by false f n ns ms h = omega arith

pub from_first_fewer : (set : Elements) (f : Forest) (ns : List ℕ) →
    how_many f (from_first set f ns) ≤ how_many f ns
from_first_fewer set f [] = omega arith
from_first_fewer set f (n ∷ ns) = stays_by (is_element_of set (name_of n f)) f n ns (from_first set f ns)
    (from_first_fewer set f ns)

pub from_html_fewer : (f : Forest) (ns : List ℕ) → how_many f (from_html f ns) ≤ how_many f ns
from_html_fewer f [] = omega arith
from_html_fewer f (n ∷ ns) = stays_by (stops_break_out (name_of n f) (is_integration_point n f)) f n ns
    (from_html f ns) (from_html_fewer f ns)

pub without_implied_fewer : (except : Elements) (f : Forest) (ns : List ℕ) →
    how_many f (without_implied except f ns) ≤ how_many f ns
without_implied_fewer except f [] = omega arith
without_implied_fewer except f (n ∷ ns) = goes_by (is_implied except (name_of n f)) f n ns
    (without_implied except f ns) (without_implied_fewer except f ns)

pub below_current_fewer : (f : Forest) (ns : List ℕ) → how_many f (below_current ns) ≤ how_many f ns
below_current_fewer f [] = omega arith
below_current_fewer f (n ∷ ns) = omega arith

-- a set of which each element is a table or a template
abbrev pub IsPart : Elements → Type 0
IsPart set = (name : QualName) → is_element_of set name ≡ true → is_counted name ≡ true

first_of_two : (x y : Bool) → (x || false) ≡ true → (x || (y || false)) ≡ true
first_of_two true y e = refl
first_of_two false y e = absurd (cc)

second_of_two : (x y : Bool) → (y || false) ≡ true → (x || (y || false)) ≡ true
second_of_two true y e = refl
second_of_two false y e = e

table_by : (ns : Namespace) (local : List ℕ) → is_one_of (words_in (one (codes "table")) ns) local ≡ true →
    is_one_of (words_in tables_and_templates ns) local ≡ true
table_by Html local e = first_of_two (bytes_eq local (codes "table")) (bytes_eq local (codes "template")) e
table_by MathMl local e = e
table_by Svg local e = e
table_by (Other text) local e = e

template_by : (ns : Namespace) (local : List ℕ) → is_one_of (words_in (one (codes "template")) ns) local ≡ true →
    is_one_of (words_in tables_and_templates ns) local ≡ true
template_by Html local e = second_of_two (bytes_eq local (codes "table")) (bytes_eq local (codes "template")) e
template_by MathMl local e = e
template_by Svg local e = e
template_by (Other text) local e = e

pub table_is_part : IsPart (one (codes "table"))
table_is_part name e = table_by name.ns name.local e

pub template_is_part : IsPart (one (codes "template"))
template_is_part name e = template_by name.ns name.local e

-- where one of such a set is open, fewer are left when it is popped
closed_by : (b c rest : Bool) (f : Forest) (ns ms : List ℕ) → (b ≡ true → c ≡ true) →
    (if b then true else rest) ≡ true → (rest ≡ true → how_many f ms < how_many f ns) →
    how_many f (if b then ns else ms) < (if c then 1 else 0) + how_many f ns
closed_by true true rest f ns ms part is less = omega arith
closed_by true false rest f ns ms part is less = absurd (let e : false ≡ true = part refl in cc)
closed_by false c rest f ns ms part is less = omega (arith, less is)

pub closed_fewer : (set : Elements) (f : Forest) (ns : List ℕ) → IsPart set → has_any set f ns ≡ true →
    how_many f (below_first set f ns) < how_many f ns
closed_fewer set f [] part is = absurd (cc)
closed_fewer set f (n ∷ ns) part is = closed_by (is_element_of set (name_of n f)) (is_counted (name_of n f))
    (has_any set f ns) f ns (below_first set f ns) (part (name_of n f)) is (closed_fewer set f ns part)

-- what is in scope is open
scope_by : (b ends rest : Bool) (set : Elements) (f : Forest) (ms : List ℕ) →
    (if b then true else has_any set f (if ends then [] else ms)) ≡ true →
    (has_any set f ms ≡ true → rest ≡ true) → (if b then true else rest) ≡ true
scope_by true ends rest set f ms is further = refl
scope_by false true rest set f ms is further = absurd (cc)
scope_by false false rest set f ms is further = further is

pub open_in_scope : (set barriers : Elements) (f : Forest) (ns : List ℕ) →
    has_any set f (up_to barriers f ns) ≡ true → has_any set f ns ≡ true
open_in_scope set barriers f [] is = is
open_in_scope set barriers f (n ∷ ns) is = scope_by (is_element_of set (name_of n f))
    (is_element_of barriers (name_of n f)) (has_any set f ns) set f (up_to barriers f ns) is
    (open_in_scope set barriers f ns)

-- where the names stay, so many stay
pub as_many_named : (f g : Forest) (ns : List ℕ) → ((n : ℕ) → IsIn n ns → name_of n g ≡ name_of n f) →
    how_many g ns ≡ how_many f ns
as_many_named f g [] stay = refl
as_many_named f g (n ∷ ns) stay =
    ap₂ (λ x y. (if is_counted x then 1 else 0) + y) (stay n (inl refl))
    (as_many_named f g ns (λ m i. stay m (inr i)))

-- one more that is neither
pub one_more : (c : Bool) (x y : ℕ) → c ≡ false → x ≡ y → (if c then 1 else 0) + x ≤ y
one_more true x y is same = absurd (cc)
one_more false x y is same = omega (arith, same)

-- a formatting element is neither
neither_by : (b c : Bool) (name : List ℕ) → bytes_eq name (codes "table") ≡ b → bytes_eq name (codes "template") ≡ c →
    is_one_of formatting name ≡ true → (b || (c || false)) ≡ false
neither_by true c name is_table is_template is = absurd (
    let named : name ≡ codes "table" = (bytes_eq-Decides name (codes "table")).0 is_table in
    let other : false ≡ true = subst (λ n. is_one_of formatting n ≡ true) named is in cc)
neither_by false true name is_table is_template is = absurd (
    let named : name ≡ codes "template" = (bytes_eq-Decides name (codes "template")).0 is_template in
    let other : false ≡ true = subst (λ n. is_one_of formatting n ≡ true) named is in cc)
neither_by false false name is_table is_template is = refl

pub formatting_is_neither : (name : List ℕ) → is_one_of formatting name ≡ true →
    is_counted (record { ns = Html; local = name }) ≡ false
formatting_is_neither name is =
    neither_by (bytes_eq name (codes "table")) (bytes_eq name (codes "template")) name refl refl is
