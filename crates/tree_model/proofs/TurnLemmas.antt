-- What a turn of the adoption agency comes to.
use Rattle.std.proofs.Common.{◌≡◌, ◌==◌, [], ◌∷◌, ◌∙◌, if◌then◌else◌, Bool, List, None, Some, ap, false, inl, inr, refl}
use Rattle.std.proofs.Common.{sym, true, ℕ}
use Rattle.tree_formatting.specs.Entries.{Entry, formatted, is_listed, is_named, last_named, marker, tag_in}
use Rattle.tree_formatting.specs.Entries.{up_to_marker}
use Rattle.html_lexemes.specs.declared.token.Tag.{Tag}
use Rattle.tree_model.specs.Adoption.{other_end, over, turn, turn_for, turn_with}
use Rattle.tree_model.specs.Building.{Building}
use Rattle.tree_model.specs.Sound.{IsListed}
use Rattle.tree_model.proofs.WalkLemmas.{same_number}

-- what is named stands after the last marker
at_once : (m n : ℕ) (rest : Bool) → Some m ≡ Some n → (if m == n then true else rest) ≡ true
at_once m n rest e = ap (λ b. if b then true else rest) (same_number m n (let k : m ≡ n = cc in k))

or_else : (b rest : Bool) → rest ≡ true → (if b then true else rest) ≡ true
or_else true rest e = refl
or_else false rest e = e

some_is : (m n : ℕ) → Some m ≡ Some n → m ≡ n
some_is m n e = cc

listed_step : (name : List ℕ) (n m : ℕ) (tag : Tag) (es : List Entry) (is : Bool) →
    (last_named name es ≡ Some n → is_listed n (up_to_marker es) ≡ true) →
    (if is then Some m else last_named name es) ≡ Some n →
    (if m == n then true else is_listed n (up_to_marker es)) ≡ true
listed_step name n m tag es true more e = at_once m n (is_listed n (up_to_marker es)) e
listed_step name n m tag es false more e = or_else (m == n) (is_listed n (up_to_marker es)) (more e)

pub named_listed : (name : List ℕ) (n : ℕ) (es : List Entry) → last_named name es ≡ Some n →
    is_listed n (up_to_marker es) ≡ true
named_listed name n [] e = absurd (let k : None ≡ Some n = e in cc)
named_listed name n (marker ∷ es) e = absurd (let k : None ≡ Some n = e in cc)
named_listed name n (formatted m tag ∷ es) e =
    listed_step name n m tag es (is_named name tag) (named_listed name n es) e

tagged_step : (name : List ℕ) (n m : ℕ) (tag : Tag) (es : List Entry) (is : Bool) →
    (last_named name es ≡ Some n → (held : Tag) × IsListed n held es) →
    (if is then Some m else last_named name es) ≡ Some n → (held : Tag) × IsListed n held (formatted m tag ∷ es)
tagged_step name n m tag es true more e = (tag, inl (sym (some_is m n e), refl))
tagged_step name n m tag es false more e = ((more e).0, inr (more e).1)

-- what is found by its name is listed with some tag
pub named_with_tag : (name : List ℕ) (n : ℕ) (es : List Entry) → last_named name es ≡ Some n →
    (held : Tag) × IsListed n held es
named_with_tag name n [] e = absurd (let k : None ≡ Some n = e in cc)
named_with_tag name n (marker ∷ es) e = absurd (let k : None ≡ Some n = e in cc)
named_with_tag name n (formatted m tag ∷ es) e =
    tagged_step name n m tag es (is_named name tag) (named_with_tag name n es) e

pub turn_is_other_end : (name : List ℕ) (b : Building) → None ≡ last_named name b.formatting →
    other_end b ≡ turn name b
turn_is_other_end name b e = ap (λ o. turn_for o b) e

pub turn_is_over : (name : List ℕ) (n : ℕ) (b : Building) → Some n ≡ last_named name b.formatting →
    None ≡ tag_in n b.formatting → over b ≡ turn name b
turn_is_over name n b e none = ap (λ t. turn_with t n b) none ∙ ap (λ o. turn_for o b) e

pub turn_is_with : (name : List ℕ) (n : ℕ) (tag : Tag) (b : Building) → Some n ≡ last_named name b.formatting →
    Some tag ≡ tag_in n b.formatting → turn_with (Some tag) n b ≡ turn name b
turn_is_with name n tag b e tagged = ap (λ t. turn_with t n b) tagged ∙ ap (λ o. turn_for o b) e
