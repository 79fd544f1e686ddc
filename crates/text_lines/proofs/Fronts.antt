-- A text that is added in front of a line's elements.
use Rattle.std.proofs.Common.{◌≡◌, ℕ, ◌+◌, List, [], ◌∷◌, ◌++◌, get_or, set, sym, ap, ◌∙◌, append_assoc, subst, arith}
use Rattle.std.specs.Prelude.{chars, string_bytes}
use Rattle.std.specs.Str.{IsUtf8}
use Rattle.std.proofs.lemmas.Str.{chars-append, chars-nil}
use Rattle.std.proofs.lemmas.List.{map-append}
use Rattle.std.proofs.lemmas.List.Sums.{sum_by-append}
use Rattle.text_lines.specs.declared.tagged_string.TaggedLineElement.{TaggedLineElement}
use Rattle.text_lines.specs.declared.tagged_string.TaggedLineElement.TheVariants.{Str, FragmentStart}
use Rattle.text_lines.specs.Columns.{text_columns, width_of}
use Rattle.text_lines.specs.Elements.{BeginsWithTag, HasTag, Item, Precedes, character, characters, element_items}
use Rattle.text_lines.specs.Elements.{elements_items, elements_text, tagged}
use Rattle.text_lines.proofs.Joins.{characters-append, characters-tagged, elements_characters}

-- ---- the first element

preceded : {T S : Type 0} (seen : T → S) (tag : S) (e f : TaggedLineElement T) (text : List ℕ) → IsUtf8 text
    → Precedes e f text → HasTag seen tag e → element_items seen f ≡ tagged (chars text) tag ++ element_items seen e
preceded seen tag (Str old) (Str new) text utf8 h has =
    ap (λ bs. tagged (chars bs) (seen new.tag)) h.0 ∙ ap (λ cs. tagged cs (seen new.tag))
    (chars-append text (string_bytes old.s) utf8)
    ∙ ap (λ t. tagged (chars text ++ chars (string_bytes old.s)) (seen t)) h.1
    ∙ map-append (λ c. character c (seen old.tag)) (chars text) (chars (string_bytes old.s))
    ∙ ap (λ t. tagged (chars text) t ++ tagged (chars (string_bytes old.s)) (seen old.tag)) has
preceded seen tag (Str old) (FragmentStart new) text utf8 h has = absurd h
preceded seen tag (FragmentStart old) f text utf8 h has = absurd has

pub first_preceded : {T S : Type 0} (seen : T → S) (es : List (TaggedLineElement T)) (e f : TaggedLineElement T)
    (text : List ℕ) → IsUtf8 text → e ≡ get_or es 0 e → Precedes e f text
    → (tag : S) → BeginsWithTag seen tag es
    → elements_items seen (set es 0 f) ≡ tagged (chars text) tag ++ elements_items seen es
first_preceded seen [] e f text utf8 read h tag begins = absurd begins
first_preceded seen (x ∷ es) e f text utf8 read h tag begins =
    let first = subst (λ y. Precedes y f text) read h in
    ap (λ items. items ++ elements_items seen es) (preceded seen tag x f text utf8 first begins)
    ∙ append_assoc (tagged (chars text) tag) (element_items seen x) (elements_items seen es)

-- ---- a text without bytes

pub nothing_in_front : {S : Type 0} (items : List (Item S)) (text : List ℕ) (tag : S) → text ≡ []
    → items ≡ tagged (chars text) tag ++ items
nothing_in_front items text tag e = ap (λ cs. tagged cs tag ++ items) (sym (ap chars e ∙ chars-nil))

-- ---- the columns

pub front_added : {T S : Type 0} (seen : T → S) (old new : List (TaggedLineElement T)) (cs : List ℕ) (tag : S)
    (n m total : ℕ) → elements_items seen new ≡ tagged cs tag ++ elements_items seen old
    → n ≡ text_columns (elements_text old)
    → m ≡ text_columns cs → total ≡ n + m → total ≡ text_columns (elements_text new)
front_added seen old new cs tag n m total same counted front all =
    let split = ap (λ items. text_columns (characters items)) same
    ∙ ap text_columns (characters-append (tagged cs tag) (elements_items seen old)) ∙ sum_by-append width_of
    (characters (tagged cs tag)) (characters (elements_items seen old)) in
    let first = ap text_columns (characters-tagged cs tag) in
    let was = ap text_columns (elements_characters seen old) in
    let now = ap text_columns (elements_characters seen new) in
    omega (arith, split, first, was, now, counted, front, all)
