-- The names of what stands lowest on a stack, among the sets of names: they are special, their end tags are not
-- implied, and what walks down foreign elements ends at them.
use Rattle.std.proofs.Common.{◌≡◌, ◌||◌, ◌&&◌, [], ◌∷◌, ◌∙◌, Bool, List, ap, bytes_eq, codes, false, not, refl, subst}
use Rattle.std.proofs.Common.{sym, true, ℕ}
use Rattle.std.proofs.lemmas.Slice.Eq.{bytes_eq-Decides}
use Rattle.tree_forest.specs.Forest.{Forest, name_of}
use Rattle.html_lexemes.specs.declared.names.Namespace.{Namespace}
use Rattle.html_lexemes.specs.declared.names.Namespace.TheVariants.{Html, MathMl, Other, Svg}
use Rattle.html_lexemes.specs.declared.names.QualName.{QualName}
use Rattle.tree_names.specs.ElementSets.{implied_end_tags, special_elements}
use Rattle.tree_names.specs.Sets.{Elements, html_elements, is_element_of, is_html, is_one_of, words_in}
use Rattle.tree_names.specs.Wanted.{is_implied}
use Rattle.page_tree_laws.proofs.GuardedStacks.{IsBase, base_kept}
use Rattle.page_tree_laws.proofs.Guards.{Guard, IsAboveBase, IsGuard, IsKeptForest, base_names}
use Rattle.tree_predicates.specs.Foreign.{is_of_html, stops_break_out}

-- each of some words
abbrev AreEach : (List ℕ → Type 0) → List (List ℕ) → Type 0
AreEach P [] = Unit {0}
AreEach P (word ∷ words) = P word × AreEach P words

one_by : (P : List ℕ → Type 0) (word name : List ℕ) (b : Bool) (more : Bool) → bytes_eq name word ≡ b →
    P word → (more ≡ true → P name) → (b || more) ≡ true → P name
one_by P word name true more same here further e = subst P (sym ((bytes_eq-Decides name word).0 same)) here
one_by P word name false more same here further e = further e

one_of : (P : List ℕ → Type 0) (words : List (List ℕ)) (name : List ℕ) → AreEach P words →
    is_one_of words name ≡ true → P name
one_of P [] name each e = absurd (let k : false ≡ true = e in cc)
one_of P (word ∷ words) name each e = one_by P word name (bytes_eq name word) (is_one_of words name) refl each.0
    (one_of P words name each.1) e

html_by : (P : QualName → Type 0) (words : List (List ℕ)) (ns : Namespace) (local : List ℕ) →
    AreEach (λ word. P (record { ns = Html; local = word })) words →
    is_one_of (words_in (html_elements words) ns) local ≡ true → P (record { ns = ns; local = local })
html_by P words Html local each e = one_of (λ word. P (record { ns = Html; local = word })) words local each e
html_by P words MathMl local each e = absurd (let k : false ≡ true = e in cc)
html_by P words Svg local each e = absurd (let k : false ≡ true = e in cc)
html_by P words (Other text) local each e = absurd (let k : false ≡ true = e in cc)

-- what holds of each of some elements of HTML
html_one : (P : QualName → Type 0) (words : List (List ℕ)) (name : QualName) →
    AreEach (λ word. P (record { ns = Html; local = word })) words →
    is_element_of (html_elements words) name ≡ true → P name
html_one P words name each e = html_by P words name.ns name.local each e

abbrev pub IsBaseName : QualName → Type 0
IsBaseName name = is_element_of (html_elements base_names) name ≡ true

-- names of the lowest elements are special
pub base_special : (name : QualName) → IsBaseName name → is_element_of special_elements name ≡ true
base_special name is = html_one (λ n. is_element_of special_elements n ≡ true) base_names name
    (refl, (refl, (refl, (refl, (refl, tt))))) is

-- their end tags are not implied
never_implied : (name : QualName) → IsBaseName name → is_element_of implied_end_tags name ≡ false
never_implied name is = html_one (λ n. is_element_of implied_end_tags n ≡ false) base_names name
    (refl, (refl, (refl, (refl, (refl, tt))))) is

none_both : (a b : Bool) → a ≡ false → (a && b) ≡ false
none_both a b e = rw e

pub base_unimplied : (except : Elements) (name : QualName) → IsBaseName name → is_implied except name ≡ false
base_unimplied except name is =
    none_both (is_element_of implied_end_tags name) (not (is_element_of except name)) (never_implied name is)

-- none is a table, or a p
pub base_no_table : (name : QualName) → IsBaseName name → is_html (codes "table") name ≡ false
base_no_table name is = html_one (λ n. is_html (codes "table") n ≡ false) base_names name
    (refl, (refl, (refl, (refl, (refl, tt))))) is

pub base_no_paragraph : (name : QualName) → IsBaseName name → is_html (codes "p") name ≡ false
base_no_paragraph name is = html_one (λ n. is_html (codes "p") n ≡ false) base_names name
    (refl, (refl, (refl, (refl, (refl, tt))))) is

-- they are of HTML, so breaking out of foreign content stops there
pub base_of_html : (name : QualName) → IsBaseName name → is_of_html name.ns ≡ true
base_of_html name is = html_one (λ n. is_of_html n.ns ≡ true) base_names name
    (refl, (refl, (refl, (refl, (refl, tt))))) is

one_either : (a b : Bool) → a ≡ true → (a || b) ≡ true
one_either a b e = rw e

pub base_stops : (name : QualName) (is_point : Bool) → IsBaseName name → stops_break_out name is_point ≡ true
base_stops name is_point is = one_either (is_of_html name.ns) _ (base_of_html name is)

-- an element of a set is not implied where the set is excepted
pub excepted : (set : Elements) (name : QualName) → is_element_of set name ≡ true → is_implied set name ≡ false
excepted set name is = by (is_element_of implied_end_tags name) (is_element_of set name) is where
  by : (a b : Bool) → b ≡ true → (a && not b) ≡ false
  by true b e = rw e
  by false b e = refl

-- the names of the lowest elements of a stack
module _ (g : Guard) (guard : IsGuard g) (f : Forest) (held : IsKeptForest g f) where
  pub base_named : (n : ℕ) → IsBase g n → IsBaseName (name_of n f)
  base_named n i = subst (λ name. IsBaseName name) (sym (held.named n (base_kept g n i))) (guard.titled n i)

  -- none is in a set that is above the base
  pub base_misses : (set : Elements) → IsAboveBase g set → (n : ℕ) → IsBase g n →
      is_element_of set (name_of n f) ≡ false
  base_misses set above n i = ap (is_element_of set) (held.named n (base_kept g n i)) ∙ above n i
