-- When elements have no item.
use Rattle.std.proofs.Common.{◌≡◌, ◌<◌, [], ◌∷◌, ◌++◌, ◌∙◌, Bool, IsTrue, List, ap, arith, false, length, map, refl}
use Rattle.std.proofs.Common.{suc, sym, true, zero, ℕ}
use Rattle.std.specs.Prelude.{chars, string_bytes, MatchBool}
use Rattle.std.specs.List.{AllWithin, HoldsAt}
use Rattle.std.specs.Str.{IsUtf8}
use Rattle.std.proofs.lemmas.Str.{chars-nil, encodes-chars, IsUtf8-string_bytes}
use Rattle.std.proofs.lemmas.Bool.{false≢true}
use Rattle.text_lines.specs.declared.tagged_string.TaggedLineElement.{TaggedLineElement}
use Rattle.text_lines.specs.declared.tagged_string.TaggedLineElement.TheVariants.{Str, FragmentStart}
use Rattle.text_lines.specs.Elements.{tagged, element_items, elements_items, IsEmpty}
use lib.Utf8.{encodes}

append_nil_parts : {A : Type 0} (xs ys : List A) → xs ++ ys ≡ [] → (xs ≡ []) × (ys ≡ [])
append_nil_parts [] ys h = (refl, h)
append_nil_parts (x ∷ xs) ys h = cc

map_nil : {A B : Type 0} (f : A → B) (xs : List A) → map f xs ≡ [] → xs ≡ []
map_nil f [] h = refl
map_nil f (x ∷ xs) h = cc

pub chars_nil : (bs : List ℕ) → IsUtf8 bs → chars bs ≡ [] → bs ≡ []
chars_nil bs utf8 h = sym (encodes-chars bs utf8) ∙ ap encodes h

pub item_free : {T S : Type 0} (seen : T → S) (e : TaggedLineElement T) → IsEmpty e → element_items seen e ≡ []
item_free seen (Str string) h = ap (λ bs. tagged (chars bs) (seen string.tag)) h
    ∙ ap (λ cs. tagged cs (seen string.tag)) chars-nil
item_free seen (FragmentStart name) h = absurd h

pub empty_from_items : {T S : Type 0} (seen : T → S) (e : TaggedLineElement T) → element_items seen e ≡ [] → IsEmpty e
empty_from_items seen (Str string) h = chars_nil (string_bytes string.s) (IsUtf8-string_bytes string.s)
    (map_nil _ (chars (string_bytes string.s)) h)
empty_from_items seen (FragmentStart name) h = cc

all_free : {T S : Type 0} (seen : T → S) (es : List (TaggedLineElement T)) → AllWithin IsEmpty es 0 (length es)
    → elements_items seen es ≡ []
all_free seen [] h = refl
all_free seen (e ∷ es) h =
    ap (λ front. front ++ elements_items seen es) (item_free seen e (h 0 e (omega arith) (omega arith)))
    ∙ all_free seen es (λ k d low high. h (suc k) d (omega arith) (omega arith))

some_item : {T S : Type 0} (seen : T → S) (es : List (TaggedLineElement T)) (k : ℕ) → k < length es
    → HoldsAt (λ e. ¬ IsEmpty e) es k → elements_items seen es ≡ [] → ⊥
some_item seen [] k inside h none = absurd (omega (arith, inside))
some_item seen (e ∷ es) zero inside h none = h e (empty_from_items seen e (append_nil_parts (element_items seen e)
    (elements_items seen es) none).0)
some_item seen (e ∷ es) (suc k) inside h none = some_item seen es k (omega (arith, inside)) h
    (append_nil_parts (element_items seen e) (elements_items seen es) none).1

pub none_by_all : {T S : Type 0} (seen : T → S) (es : List (TaggedLineElement T)) (r : Bool)
    → MatchBool r (AllWithin IsEmpty es 0 (length es)) ((k : ℕ) × (k < length es) × HoldsAt (λ e. ¬ IsEmpty e) es k)
    → (IsTrue r → elements_items seen es ≡ []) × (elements_items seen es ≡ [] → IsTrue r)
none_by_all seen es true h = (λ _. all_free seen es h, λ _. refl)
none_by_all seen es false h = (λ e. absurd (false≢true e), λ none. absurd (some_item seen es h.0 h.1 h.2 none))
