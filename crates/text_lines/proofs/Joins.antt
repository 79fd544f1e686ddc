-- Texts and markers that are added at the end of a line's elements.
use Rattle.std.proofs.Common.{◌≡◌, ◌+◌, ◌-◌, ◌<◌, [], ◌∷◌, ◌++◌, ◌∙◌, List, add-zero, ap, append_assoc, arith, get_or}
use Rattle.std.proofs.Common.{length, refl, set, subst, sym, take, ℕ}
use Rattle.std.specs.Prelude.{Err, IsSomeAnd, None, Ok, OnErr, OnOk, Option, Result, Some, chars, slice_get}
use Rattle.std.specs.Prelude.{string_bytes}
use Rattle.std.proofs.lemmas.Str.{chars-append, chars-nil, chars_past_char, IsUtf8-encode, IsUtf8-string_bytes}
use Rattle.std.specs.Char.{IsScalar}
use lib.Utf8.{encode}
use Rattle.std.proofs.lemmas.List.{append-nil, map-append, take_all, take_more, take_more_set, length-set}
use Rattle.std.proofs.lemmas.List.Sums.{sum_by-append}
use Rattle.std.proofs.lemmas.Option.{slice_get-get_or}
use Rattle.text_lines.specs.declared.tagged_string.TaggedLineElement.{TaggedLineElement}
use Rattle.text_lines.specs.declared.tagged_string.TaggedLineElement.TheVariants.{Str, FragmentStart}
use Rattle.text_lines.specs.Columns.{text_columns, width_of}
use Rattle.text_lines.specs.Elements.{EndsWithTag, Extends, HasTag, Item, character, characters, element_items}
use Rattle.text_lines.specs.Elements.{element_text, elements_items, elements_text, marker, tagged}

-- ---- the items of joined lists

pub elements_items-append : {T S : Type 0} (seen : T → S) (xs ys : List (TaggedLineElement T))
    → elements_items seen (xs ++ ys) ≡ elements_items seen xs ++ elements_items seen ys
elements_items-append seen [] ys = refl
elements_items-append seen (x ∷ xs) ys =
    ap (λ rest. element_items seen x ++ rest) (elements_items-append seen xs ys)
    ∙ sym (append_assoc (element_items seen x) (elements_items seen xs) (elements_items seen ys))

elements_items-last : {T S : Type 0} (seen : T → S) (xs : List (TaggedLineElement T)) (e : TaggedLineElement T)
    → elements_items seen (xs ++ e ∷ []) ≡ elements_items seen xs ++ element_items seen e
elements_items-last seen xs e =
    elements_items-append seen xs (e ∷ []) ∙ ap (λ last. elements_items seen xs ++ last)
    (append-nil (element_items seen e))

pub items_pushed : {T S : Type 0} (seen : T → S) (xs ys : List (TaggedLineElement T)) (e : TaggedLineElement T)
    → ys ≡ xs ++ e ∷ [] → elements_items seen ys ≡ elements_items seen xs ++ element_items seen e
items_pushed seen xs ys e same = ap (elements_items seen) same ∙ elements_items-last seen xs e

-- ---- the characters

pub characters-append : {S : Type 0} (xs ys : List (Item S)) → characters (xs ++ ys) ≡ characters xs ++ characters ys
characters-append [] ys = refl
characters-append (character c tag ∷ xs) ys = ap (λ rest. c ∷ rest) (characters-append xs ys)
characters-append (marker name ∷ xs) ys = characters-append xs ys

pub characters-tagged : {S : Type 0} (cs : List ℕ) (tag : S) → characters (tagged cs tag) ≡ cs
characters-tagged [] tag = refl
characters-tagged (c ∷ cs) tag = ap (λ rest. c ∷ rest) (characters-tagged cs tag)

element_characters : {T S : Type 0} (seen : T → S) (e : TaggedLineElement T) → characters (element_items seen e) ≡ chars
    (element_text e)
element_characters seen (Str string) = characters-tagged (chars (string_bytes string.s)) (seen string.tag)
element_characters seen (FragmentStart name) = sym chars-nil

pub elements_characters : {T S : Type 0} (seen : T → S) (es : List (TaggedLineElement T))
    → characters (elements_items seen es) ≡ elements_text es
elements_characters seen [] = refl
elements_characters seen (e ∷ es) =
    characters-append (element_items seen e) (elements_items seen es)
    ∙ ap (λ front. front ++ characters (elements_items seen es)) (element_characters seen e)
    ∙ ap (λ rest. chars (element_text e) ++ rest) (elements_characters seen es)

-- ---- the columns

pub same_columns : {T S : Type 0} (seen : T → S) (old new : List (TaggedLineElement T)) (n : ℕ)
    → elements_items seen new ≡ elements_items seen old → n ≡ text_columns (elements_text old)
    → n ≡ text_columns (elements_text new)
same_columns seen old new n same counted =
    counted ∙ ap text_columns (sym (elements_characters seen old)) ∙ ap (λ items. text_columns (characters items))
    (sym same) ∙ ap text_columns (elements_characters seen new)

pub more_columns : {T S : Type 0} (seen : T → S) (old new : List (TaggedLineElement T)) (more : List (Item S))
    (n m total : ℕ) → elements_items seen new ≡ elements_items seen old ++ more → n ≡ text_columns (elements_text old)
    → m ≡ text_columns (characters more) → total ≡ n + m → total ≡ text_columns (elements_text new)
more_columns seen old new more n m total same counted rest all =
    let split = ap (λ items. text_columns (characters items)) same
    ∙ ap text_columns (characters-append (elements_items seen old) more) ∙ sum_by-append width_of
    (characters (elements_items seen old)) (characters more) in
    let was = ap text_columns (elements_characters seen old) in
    let now = ap text_columns (elements_characters seen new) in
    omega (arith, split, was, now, counted, rest, all)

pub text_added : {T S : Type 0} (seen : T → S) (old new : List (TaggedLineElement T)) (cs : List ℕ) (tag : S)
    (n m total : ℕ) → elements_items seen new ≡ elements_items seen old ++ tagged cs tag
    → n ≡ text_columns (elements_text old)
    → m ≡ text_columns cs → total ≡ n + m → total ≡ text_columns (elements_text new)
text_added seen old new cs tag n m total same counted rest all =
    more_columns seen old new (tagged cs tag) n m total same counted
    (rest ∙ ap text_columns (sym (characters-tagged cs tag))) all

pub line_added : {T S : Type 0} (seen : T → S) (old new others given : List (TaggedLineElement T)) (n m total : ℕ)
    → elements_items seen new ≡ elements_items seen old ++ elements_items seen given → given ≡ others
    → n ≡ text_columns (elements_text old)
    → m ≡ text_columns (elements_text others) → total ≡ n + m → total ≡ text_columns (elements_text new)
line_added seen old new others given n m total same all counted rest sum =
    more_columns seen old new (elements_items seen others) n m total
    (same ∙ ap (λ es. elements_items seen old ++ elements_items seen es) all) counted
    (rest ∙ ap text_columns (sym (elements_characters seen others))) sum

-- a marker has no columns, and a refused one isn't there
pub marker_added : {T S E : Type 0} (seen : T → S) (r : Result (Unit {0}) E) (old new : List (TaggedLineElement T))
    (name : List ℕ) (n : ℕ) → OnOk r (elements_items seen new ≡ elements_items seen old ++ marker name ∷ [])
    → OnErr r (new ≡ old) → n ≡ text_columns (elements_text old) → n ≡ text_columns (elements_text new)
marker_added seen (Ok x) old new name n ok err counted =
    more_columns seen old new (marker name ∷ []) n 0 n ok counted refl (sym (add-zero n))
marker_added seen (Err e) old new name n ok err counted =
    same_columns seen old new n (ap (elements_items seen) err) counted

-- ---- the last element

pub last_split : {A : Type 0} (xs : List A) (i : ℕ) (d : A) → i + 1 ≡ length xs → xs ≡ take i xs ++ get_or xs i d ∷ []
last_split xs i d e = sym (take_all (i + 1) xs (omega (arith, e))) ∙ take_more xs i d (omega (arith, e))

pub last_set : {A : Type 0} (xs : List A) (i : ℕ) (y : A) → i + 1 ≡ length xs → set xs i y ≡ take i xs ++ y ∷ []
last_set xs i y e =
    sym (take_all (i + 1) (set xs i y) (omega (arith, e, length-set xs i y))) ∙ take_more_set xs i y (omega (arith, e))

extended : {T S : Type 0} (seen : T → S) (tag : S) (e f : TaggedLineElement T) (text : List ℕ) → Extends e f text
    → HasTag seen tag e → element_items seen f ≡ element_items seen e ++ tagged (chars text) tag
extended seen tag (Str old) (Str new) text h has =
    ap (λ bs. tagged (chars bs) (seen new.tag)) h.0 ∙ ap (λ cs. tagged cs (seen new.tag))
    (chars-append (string_bytes old.s) text (IsUtf8-string_bytes old.s))
    ∙ ap (λ t. tagged (chars (string_bytes old.s) ++ chars text) (seen t)) h.1
    ∙ map-append (λ c. character c (seen old.tag)) (chars (string_bytes old.s)) (chars text)
    ∙ ap (λ t. tagged (chars (string_bytes old.s)) (seen old.tag) ++ tagged (chars text) t) has
extended seen tag (Str old) (FragmentStart new) text h has = absurd h
extended seen tag (FragmentStart old) f text h has = absurd has

kept : {T S : Type 0} (seen : T → S) (e f : TaggedLineElement T) → Extends e f []
    → element_items seen f ≡ element_items seen e
kept seen (Str old) (Str new) h =
    ap (λ bs. tagged (chars bs) (seen new.tag)) (h.0 ∙ append-nil (string_bytes old.s))
    ∙ ap (λ t. tagged (chars (string_bytes old.s)) (seen t)) h.1
kept seen (Str old) (FragmentStart new) h = absurd h
kept seen (FragmentStart old) (Str new) h = absurd h
kept seen (FragmentStart old) (FragmentStart new) h = ap (λ name. marker (chars (string_bytes name)) ∷ []) h

last_has_tag : {T S : Type 0} (seen : T → S) (tag : S) (o : Option (TaggedLineElement T)) (e : TaggedLineElement T)
    → o ≡ Some e → IsSomeAnd o (HasTag seen tag) → HasTag seen tag e
last_has_tag seen tag None e same h = absurd h
last_has_tag seen tag (Some x) e same h = let inner : x ≡ e = cc in subst (HasTag seen tag) inner h

pub last_extended : {T S : Type 0} (seen : T → S) (es : List (TaggedLineElement T)) (i : ℕ) (e f : TaggedLineElement T)
    (text : List ℕ) → i + 1 ≡ length es → i ≡ length es - 1 → e ≡ get_or es i e → Extends e f text
    → (tag : S) → EndsWithTag seen tag es → elements_items seen (set es i f) ≡ elements_items seen es ++ tagged
    (chars text) tag
last_extended seen es i e f text last at read extends tag ends =
    let here : slice_get es (length es - 1) ≡ Some e = ap (λ k. slice_get es k) (sym at) ∙ slice_get-get_or es i e
    (omega (arith, last)) ∙ ap Some (sym read) in
    let has = last_has_tag seen tag (slice_get es (length es - 1)) e here ends in
    let whole = ap (elements_items seen) (last_split es i e last ∙ ap (λ x. take i es ++ x ∷ []) (sym read))
    ∙ elements_items-last seen (take i es) e in
    ap (elements_items seen) (last_set es i f last) ∙ elements_items-last seen (take i es) f
    ∙ ap (λ items. elements_items seen (take i es) ++ items) (extended seen tag e f text extends has)
    ∙ sym (append_assoc (elements_items seen (take i es)) (element_items seen e) (tagged (chars text) tag))
    ∙ ap (λ items. items ++ tagged (chars text) tag) (sym whole)

pub last_kept : {T S : Type 0} (seen : T → S) (es : List (TaggedLineElement T)) (i : ℕ) (e f : TaggedLineElement T)
    → i + 1 ≡ length es → e ≡ get_or es i e → Extends e f [] → elements_items seen (set es i f) ≡ elements_items seen es
last_kept seen es i e f last read extends =
    let whole = ap (elements_items seen) (last_split es i e last ∙ ap (λ x. take i es ++ x ∷ []) (sym read))
    ∙ elements_items-last seen (take i es) e in
    ap (elements_items seen) (last_set es i f last) ∙ elements_items-last seen (take i es) f
    ∙ ap (λ items. elements_items seen (take i es) ++ items) (kept seen e f extends) ∙ sym whole

-- ---- a text without bytes, and a character alone

pub nothing_added : {S : Type 0} (items : List (Item S)) (text : List ℕ) (tag : S) → text ≡ [] → items ≡ items ++ tagged
    (chars text) tag
nothing_added items text tag e =
    sym (append-nil items) ∙ ap (λ cs. items ++ tagged cs tag) (sym (ap chars e ∙ chars-nil))

pub chars_of_one : (c : ℕ) → IsScalar c → chars (encode c) ≡ c ∷ []
chars_of_one c scalar =
    chars_past_char (encode c) [] c (IsUtf8-encode c scalar) (sym (append-nil (encode c))) ∙ ap (λ cs. c ∷ cs) chars-nil

-- ---- a loop that copies elements

pub items_more : {T S : Type 0} (seen : T → S) (xs : List (TaggedLineElement T)) (i : ℕ) (e : TaggedLineElement T)
    (copied new : List (Item S)) → i < length xs → e ≡ get_or xs i e → copied ≡ elements_items seen (take i xs)
    → new ≡ copied ++ element_items seen e → new ≡ elements_items seen (take (i + 1) xs)
items_more seen xs i e copied new inside read so_far added =
    let step = ap (elements_items seen) (take_more xs i e inside ∙ ap (λ x. take i xs ++ x ∷ []) (sym read))
    ∙ elements_items-last seen (take i xs) e in
    added ∙ ap (λ items. items ++ element_items seen e) so_far ∙ sym step
