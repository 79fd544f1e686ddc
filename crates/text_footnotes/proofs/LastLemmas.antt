-- The number of the last target.
use Rattle.std.proofs.Common.{◌≡◌, ◌+◌, ◌-◌, ◌<◌, [], ◌∷◌, ◌++◌, ◌∙◌, List, None, Option, Some, String, ap, arith, cond}
use Rattle.std.proofs.Common.{false, get_or, length, refl, slice_get, string_eq, subst, sym, take, true, unwrap_or, ℕ}
use Rattle.std.proofs.lemmas.List.{map-append, take_more}
use Rattle.std.proofs.lemmas.Bool.{cond-true, or_left, or_right}
use Rattle.std.specs.Cmp.Lexicographic.{nat_list_eq_equiv}
use Rattle.std.specs.Global.{Global}
use Rattle.std.specs.HashMap.{get}
use Rattle.std.specs.List.{last_or, take-map}
use Rattle.text_pieces.specs.Sources.{names}
use Rattle.text_footnotes.specs.Seen.{AreNumbered}
use Rattle.text_footnotes.specs.Targets.{distinct, has_text, is_same_text, last_number, number_among}
use Rattle.text_footnotes.proofs.NumberLemmas.{Numbers}
use Rattle.text_footnotes.proofs.TextLemmas.{text_of}

-- the last string's text is the last of the texts, and among them
last_named : (x y : String Global) (xs : List (String Global)) → Some y ≡ slice_get (x ∷ xs) (length xs) →
    last_or (Some (text_of x)) (names xs) ≡ Some (text_of y)
last_named x y [] is = cc is
last_named x y (z ∷ xs) is = last_named z y xs is

last_had : (t u : List ℕ) (texts : List (List ℕ)) → last_or (Some t) texts ≡ Some u → has_text (t ∷ texts) u ≡ true
last_had t u [] is = or_left (is_same_text u t) false
    (let same : t ≡ u = cc is in subst (λ v. is_same_text u v ≡ true) (sym same) (nat_list_eq_equiv.refl u))
last_had t u (v ∷ texts) is = or_right (is_same_text u t) (has_text (v ∷ texts) u) (last_had v u texts is)

-- what the map has of a target is its number
number_of : (targets : List (List ℕ)) (t : List ℕ) (found : Option ℕ) → has_text targets t ≡ true →
    found ≡ cond (has_text targets t) (Some (number_among (distinct targets) (Some t))) None →
    unwrap_or found 0 ≡ number_among (distinct targets) (Some t)
number_of targets t found has is = ap (λ o. unwrap_or o 0) (is
    ∙ cond-true (has_text targets t) (Some (number_among (distinct targets) (Some t))) None has)

-- so has it of the last one
pub last_numbered : (items : List (String Global)) (m : Numbers) (y : String Global) → AreNumbered (names items) m →
    Some y ≡ slice_get items (length items - 1) → unwrap_or (get string_eq m y) 0 ≡ last_number true (names items)
last_numbered [] m y numbered is = cc is
last_numbered (x ∷ xs) m y numbered is =
    let one : length (x ∷ xs) - 1 ≡ length xs = omega arith in
    let last = last_named x y xs (is ∙ ap (slice_get (x ∷ xs)) one) in
    number_of (names (x ∷ xs)) (text_of y) (get string_eq m y)
    (last_had (text_of x) (text_of y) (names xs) last) (numbered.each y)
    ∙ ap (number_among (distinct (names (x ∷ xs)))) (sym last)

-- before the first link there is none
pub none_numbered : (items : List (String Global)) → length items ≡ 0 → 0 ≡ last_number true (names items)
none_numbered [] none = refl
none_numbered (x ∷ xs) none = cc none

-- one target more is numbered
pub one_numbered : (items : List (String Global)) (n : ℕ) (y : String Global) (m : Numbers) → n < length items →
    y ≡ get_or items n y → AreNumbered (take n (names items) ++ text_of y ∷ []) m →
    AreNumbered (take (n + 1) (names items)) m
one_numbered items n y m small is numbered =
    subst (λ ts. AreNumbered ts m) (sym (take-map text_of (n + 1) items
    ∙ (ap names (take_more items n y small ∙ ap (λ z. take n items ++ z ∷ []) (sym is))
    ∙ (map-append text_of (take n items) (y ∷ [])
    ∙ ap (λ ts. ts ++ text_of y ∷ []) (sym (take-map text_of n items)))))) numbered
