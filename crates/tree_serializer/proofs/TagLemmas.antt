-- The texts of tags, piece by piece as they are written.
use Rattle.std.proofs.Common.{◌≡◌, [], ◌∷◌, ◌++◌, ◌+◌, ◌<◌, ◌∙◌, List, add-one, ap, append_assoc, codes, drop}
use Rattle.std.proofs.Common.{drop-cons, get_or, length, refl, suc, sym, true, ℕ}
use Rattle.std.specs.Prelude.{Option}
use Rattle.std.specs.Str.{chars}
use Rattle.html_lexemes.specs.declared.names.Attribute.{Attribute}
use Rattle.html_lexemes.specs.declared.names.QualName.{QualName}
use Rattle.tree_serializer.specs.Escapes.{attribute_text, attributes_text, comment_text, doctype_text, end_text}
use Rattle.tree_serializer.specs.Escapes.{escaped, instruction_text, start_text}
use Rattle.tree_serializer.specs.Writing.{GrowsPart}
use Rattle.tree_serializer.proofs.GrowthLemmas.{part_of_more}

pub attribute_is : (a : Attribute) (name : List ℕ) → chars name ≡ a.name.local
    → (chars (codes " ") ++ chars name ++ chars (codes "=\"")) ++ escaped true a.value ++ chars (codes "\"")
    ≡ attribute_text a
unfolding chars
attribute_is a name e =
    ap (λ l. 32 ∷ (l ++ 34 ∷ []))
    (append_assoc (chars name) (61 ∷ 34 ∷ []) (escaped true a.value)
    ∙ ap (λ l. l ++ (61 ∷ 34 ∷ escaped true a.value)) e)

pub start_is : (name : QualName) (local : List ℕ) (attributes : List Attribute) → chars local ≡ name.local
    → (chars (codes "<") ++ chars local) ++ attributes_text attributes ++ chars (codes ">")
    ≡ start_text name attributes
unfolding chars
start_is name local attributes e = ap (λ l. 60 ∷ (l ++ attributes_text attributes ++ 62 ∷ [])) e

pub begun_start : {old new : Option (List ℕ)} (name : QualName) (attributes : List Attribute)
    → GrowsPart (chars (codes "<")) old new → GrowsPart (start_text name attributes) old new
unfolding chars
begun_start name attributes p =
    part_of_more (60 ∷ name.local ++ attributes_text attributes) (62 ∷ [])
    (part_of_more (60 ∷ name.local) (attributes_text attributes) (part_of_more (60 ∷ []) name.local p))

pub end_is : (name : QualName) (local : List ℕ) → chars local ≡ name.local
    → chars (codes "</") ++ chars local ++ chars (codes ">") ≡ end_text name
unfolding chars
end_is name local e = ap (λ l. 60 ∷ 47 ∷ (l ++ 62 ∷ [])) e

pub comment_is : (cs : List ℕ) → chars (codes "<!--") ++ cs ++ chars (codes "-->") ≡ comment_text cs
unfolding chars
comment_is cs = refl

pub doctype_is : (cs : List ℕ) → chars (codes "<!DOCTYPE ") ++ cs ++ chars (codes ">") ≡ doctype_text cs
unfolding chars
doctype_is cs = refl

pub instruction_is : (target cs : List ℕ)
    → (chars (codes "<?") ++ target ++ chars (codes " ")) ++ cs ++ chars (codes ">") ≡ instruction_text target cs
unfolding chars
instruction_is target cs = ap (λ l. 60 ∷ 63 ∷ (l ++ 62 ∷ [])) (append_assoc target (32 ∷ []) cs)

-- what is left from an index on
item_first : {X : Type 0} (xs : List X) (i : ℕ) (x : X) → i < length xs → x ≡ get_or xs i x
    → drop i xs ≡ x ∷ drop (i + 1) xs
item_first xs i x h is = rw (add-one, drop-cons xs i x h) (ap (λ y. y ∷ drop (suc i) xs) (sym is))

pub attributes-step : (all : List Attribute) (i : ℕ) (a : Attribute) → i < length all → a ≡ get_or all i a
    → attributes_text (drop i all) ≡ attribute_text a ++ attributes_text (drop (i + 1) all)
attributes-step all i a h is = ap attributes_text (item_first all i a h is)
