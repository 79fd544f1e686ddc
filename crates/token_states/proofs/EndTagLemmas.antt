-- The turn at `</` and letters.
use Rattle.std.proofs.Common.{◌≡◌, ◌==◌, ◌&&◌, [], ◌∷◌, ◌++◌, ◌∙◌, Bool, IsUtf8, List, None, Option, Some, ap}
use Rattle.std.proofs.Common.{append-nil, arith, codes, drop, false, length, nat_lt, not, option_map, refl, subst, sym}
use Rattle.std.proofs.Common.{true, ℕ}
use Rattle.std.proofs.lemmas.Bool.{and_from, and_left, and_parts, and_right, both_ways, eq-eqb, eqb-true}
use Rattle.std.proofs.lemmas.Bool.{false_from_ne_true, lt-ltb}
use Rattle.std.proofs.lemmas.Bool.Decides.{nat_tests}
use Rattle.std.specs.Char.{is_ascii_alphabetic, to_ascii_lowercase}
use Rattle.std.specs.List.{list_all}
use Rattle.std.specs.Prelude.{if◌then◌else◌}
use Rattle.std.specs.Str.{bytes_eq, chars}
use Rattle.lex_base.specs.References.{References, is_between}
use Rattle.lex_base.specs.Texts.{same_texts}
use Rattle.html_lexemes.specs.declared.states.RawKind.{RawKind}
use Rattle.html_lexemes.specs.declared.states.RawKind.TheVariants.{Rcdata, Rawtext, ScriptData, ScriptDataEscaped}
use Rattle.html_lexemes.specs.declared.states.ScriptEscapeKind.TheVariants.{Escaped, DoubleEscaped}
use Rattle.html_lexemes.specs.declared.token.TagKind.{TagKind}
use Rattle.html_lexemes.specs.declared.token.TagKind.TheVariants.{EndTag as EndTagKind}
use Rattle.token_grammar.specs.Characters.{is_letter, name_of, shown}
use Rattle.token_grammar.specs.Lexemes.{ends_raw_text, has_end_tags, is_last, kind_after, named_end_tag}
use Rattle.token_grammar.specs.Slices.{after, begins, first_passes, front_while, rest_while}
use Rattle.token_grammar.specs.Tags.{ends_tag_name, tag_end, tag_of}
use Rattle.token_grammar.specs.declared.modes.Mode.{Mode}
use Rattle.token_grammar.proofs.LexemeLemmas.{chosen_true, mark_found, no_mark}
use Rattle.token_grammar.proofs.SliceLemmas.{no_bytes}
use Rattle.lex_base.proofs.NameTests.{some_chars}
use Rattle.token_states.specs.RawHeld.{is_at}
use Rattle.token_states.specs.Goings.{has_end_tag, is_end_tag_front, is_name_of_letters, is_raw_going}
use Rattle.token_states.specs.RawSound.{is_end_tag_begun, is_raw_held, is_word_front}
use Rattle.token_states.specs.RawTurns.{IsEndTag, IsTextBefore}
use Rattle.token_states.specs.TagPlaces.{IsInTag, tag_rest}
use Rattle.token_states.specs.Turns.{is_raw_text}
use Rattle.token_states.specs.declared.place.RawPlace.TheVariants.{EndTagName}
use Rattle.token_states.specs.declared.place.TagPlace.TheVariants.{TagName}
use Rattle.token_states.proofs.RawTextLemmas.{sign_text}
use Rattle.token_states.proofs.WordLemmas.{ascii_text, front_more, is_ascii}

-- fronts of characters that pass
front_on : (p : ℕ → Bool) (letters cs : List ℕ) → list_all p letters ≡ true → front_while p (letters ++ cs)
    ≡ letters ++ front_while p cs
front_on p [] cs h = refl
front_on p (c ∷ letters) cs h =
    let e = and_parts (p c) (list_all p letters) h in
    sym (chosen_true (p c) (c ∷ front_while p (letters ++ cs)) [] e.0) ∙ ap (λ l. c ∷ l) (front_on p letters cs e.1)

pub rest_on : (p : ℕ → Bool) (letters cs : List ℕ) → list_all p letters ≡ true →
    rest_while p (letters ++ cs) ≡ rest_while p cs
rest_on p [] cs h = refl
rest_on p (c ∷ letters) cs h =
    let e = and_parts (p c) (list_all p letters) h in
    sym (chosen_true (p c) (rest_while p (letters ++ cs)) (c ∷ (letters ++ cs)) e.0) ∙ rest_on p letters cs e.1

front_passes : (p : ℕ → Bool) (cs : List ℕ) → list_all p (front_while p cs) ≡ true
front_passes p [] = refl
front_passes p (c ∷ cs) = go (p c) refl (front_passes p cs) where
  go : (b : Bool) → p c ≡ b → list_all p (front_while p cs) ≡ true → list_all p (if b then c ∷ front_while p cs
      else []) ≡ true
  go true e h = and_from (p c) (list_all p (front_while p cs)) e h
  go false e h = refl

front_off : (p : ℕ → Bool) (c : ℕ) (cs : List ℕ) → p c ≡ false → front_while p (c ∷ cs) ≡ []
front_off p c cs e = ap (λ b. if b then c ∷ front_while p cs else []) e

rest_off : (p : ℕ → Bool) (c : ℕ) (cs : List ℕ) → p c ≡ false → rest_while p (c ∷ cs) ≡ c ∷ cs
rest_off p c cs e = ap (λ b. if b then rest_while p cs else c ∷ cs) e

pub all_pass : (p q : ℕ → Bool) (cs : List ℕ) → ((c : ℕ) → p c ≡ true → q c ≡ true) → list_all p cs ≡ true →
    list_all q cs ≡ true
all_pass p q [] f h = refl
all_pass p q (c ∷ cs) f h =
    let e = and_parts (p c) (list_all p cs) h in
    and_from (q c) (list_all q cs) (f c e.0) (all_pass p q cs f e.1)

letter_plain : (kind : RawKind) (c : ℕ) → is_letter c ≡ true → is_raw_text kind c ≡ true
letter_plain Rcdata c h = grind (arith, nat_tests)
letter_plain Rawtext c h = grind (arith, nat_tests)
letter_plain ScriptData c h = grind (arith, nat_tests)
letter_plain (ScriptDataEscaped _) c h = grind (arith, nat_tests)

slash_plain : (kind : RawKind) → is_raw_text kind 47 ≡ true
slash_plain Rcdata = refl
slash_plain Rawtext = refl
slash_plain ScriptData = refl
slash_plain (ScriptDataEscaped _) = refl

pub slash_same : (kind : RawKind) (cs : List ℕ) → has_end_tags kind ≡ true → kind_after kind (60 ∷ 47 ∷ cs) ≡ kind
slash_same Rcdata cs h = refl
slash_same Rawtext cs h = refl
slash_same ScriptData cs h = refl
slash_same (ScriptDataEscaped Escaped) cs h = refl
slash_same (ScriptDataEscaped DoubleEscaped) cs h = absurd cc

-- `</` and letters that are no end tag
abbrev is_named : Option (List ℕ) → List ℕ → Bool
is_named last cs = named_end_tag last (front_while is_letter cs) (rest_while is_letter cs)

tag_text : (table : References) (mode : Mode) (kind : RawKind) (letters : List ℕ) (c : ℕ) → has_end_tags kind ≡ true →
    list_all is_letter letters ≡ true → ((rest : List ℕ) → is_named mode.last_start_tag (letters ++ c ∷ rest) ≡ false) →
    IsTextBefore table mode kind (60 ∷ 47 ∷ letters) kind c
tag_text table mode kind letters c k h n = λ rest.
    sign_text table mode kind kind (47 ∷ letters) (c ∷ rest)
    (and_right (has_end_tags kind) (ends_raw_text mode.last_start_tag (47 ∷ (letters ++ c ∷ rest))) (n rest))
    (slash_same kind (letters ++ c ∷ rest) k)
    (and_from (is_raw_text kind 47) (list_all (is_raw_text kind) letters) (slash_plain kind)
    (all_pass is_letter (is_raw_text kind) letters (letter_plain kind) h))

-- names
letter_lower : (c : ℕ) → is_letter c ≡ true → is_between 97 122 (to_ascii_lowercase (shown c)) ≡ true
letter_lower c h = grind (arith, nat_tests)

lower_ascii : (c : ℕ) → is_between 97 122 c ≡ true → is_ascii c ≡ true
lower_ascii c h = grind (arith, nat_tests)

pub letter_shown : (c : ℕ) → is_letter c ≡ true → to_ascii_lowercase c ≡ to_ascii_lowercase (shown c)
letter_shown c h = grind (arith, nat_tests)

name_lower : (letters : List ℕ) → list_all is_letter letters ≡ true → list_all (is_between 97 122) (name_of letters)
    ≡ true
name_lower [] h = refl
name_lower (c ∷ letters) h =
    let e = and_parts (is_letter c) (list_all is_letter letters) h in
    and_from (is_between 97 122 (to_ascii_lowercase (shown c))) (list_all (is_between 97 122) (name_of letters))
    (letter_lower c e.0) (name_lower letters e.1)

name_ascii : (letters : List ℕ) → list_all is_letter letters ≡ true → list_all is_ascii (name_of letters) ≡ true
name_ascii letters h = all_pass (is_between 97 122) is_ascii (name_of letters) lower_ascii (name_lower letters h)

at_named : (letters more : List ℕ) (c : ℕ) → is_letter c ≡ true →
    is_at (to_ascii_lowercase c) (name_of (letters ++ c ∷ more)) (length letters) ≡ true
at_named [] more c h = eq-eqb (to_ascii_lowercase c) (to_ascii_lowercase (shown c)) (letter_shown c h)
at_named (d ∷ letters) more c h = at_named letters more c h

-- letters that do not go on with a name, which is given by its bytes
other_letters : (name letters more : List ℕ) (c : ℕ) → IsUtf8 name → list_all is_letter (letters ++ c ∷ more) ≡ true →
    is_letter c ≡ true → is_at (to_ascii_lowercase c) name (length letters) ≡ false →
    bytes_eq (chars name) (name_of (letters ++ c ∷ more)) ≡ false
other_letters name letters more c u a l e =
    false_from_ne_true (bytes_eq (chars name) (name_of (letters ++ c ∷ more))) (λ t.
    let same : chars name ≡ name_of (letters ++ c ∷ more) = same_texts (chars name) (name_of (letters ++ c ∷ more)) t in
    let bytes : name ≡ chars name =
    ascii_text name u (ap (list_all is_ascii) same ∙ name_ascii (letters ++ c ∷ more) a) in
    both_ways (is_at (to_ascii_lowercase c) name (length letters)) e
    (ap (λ n. is_at (to_ascii_lowercase c) n (length letters)) (bytes ∙ same) ∙ at_named letters more c l))

all_append : (p : ℕ → Bool) (xs ys : List ℕ) → list_all p xs ≡ true → list_all p ys ≡ true →
    list_all p (xs ++ ys) ≡ true
all_append p [] ys a b = b
all_append p (x ∷ xs) ys a b =
    let e = and_parts (p x) (list_all p xs) a in
    and_from (p x) (list_all p (xs ++ ys)) e.0 (all_append p xs ys e.1 b)

letters_on : (letters rest : List ℕ) (c : ℕ) → list_all is_letter letters ≡ true → is_letter c ≡ true →
    front_while is_letter (letters ++ c ∷ rest) ≡ letters ++ c ∷ front_while is_letter rest
letters_on letters rest c h l =
    front_on is_letter letters (c ∷ rest) h ∙ ap (λ cs. letters ++ cs)
    (sym (chosen_true (is_letter c) (c ∷ front_while is_letter rest) [] l))

abbrev last_differs : Option (List ℕ) → List ℕ → ℕ → Type 0
last_differs last letters c = (more : List ℕ) → list_all is_letter (letters ++ c ∷ more) ≡ true →
    is_last last (name_of (letters ++ c ∷ more)) ≡ false

not_named : (last : Option (List ℕ)) (name rest : List ℕ) → is_last last (name_of name) ≡ false →
    named_end_tag last name rest ≡ false
not_named last name rest e =
    and_left (nat_lt 0 (length name) && is_last last (name_of name)) (first_passes ends_tag_name rest)
    (and_right (nat_lt 0 (length name)) (is_last last (name_of name)) e)

lower_name : (c : ℕ) (letters : List ℕ) → list_all is_letter (c ∷ letters) ≡ true →
    is_name_of_letters (name_of (c ∷ letters)) ≡ true
lower_name c letters h =
    and_from (nat_lt 0 (length (name_of (c ∷ letters)))) (list_all (is_between 97 122) (name_of (c ∷ letters)))
    (lt-ltb 0 (length (name_of (c ∷ letters))) (omega arith)) (name_lower (c ∷ letters) h)

-- without an end tag that the last start tag's name can have
no_end_name : (last : Option (List ℕ)) (name rest : List ℕ) → has_end_tag last ≡ false →
    list_all is_letter name ≡ true → named_end_tag last name rest ≡ false
no_end_name None name rest e h = not_named None name rest refl
no_end_name (Some last) [] rest e h = refl
no_end_name (Some last) (c ∷ name) rest e h =
    not_named (Some last) (c ∷ name) rest (false_from_ne_true (bytes_eq last (name_of (c ∷ name))) (λ t.
    both_ways (is_name_of_letters last) e (ap is_name_of_letters (same_texts last (name_of (c ∷ name)) t) ∙
    lower_name c name h)))

pub no_end_tag : (last : Option (List ℕ)) (cs : List ℕ) → has_end_tag last ≡ false → ends_raw_text last cs ≡ false
no_end_tag last cs e =
    and_right (begins (codes "/") cs) _ (no_end_name last (front_while is_letter (drop 1 cs))
    (rest_while is_letter (drop 1 cs)) e (front_passes is_letter (drop 1 cs)))

pub slash_before : (table : References) (mode : Mode) (kind : RawKind) → has_end_tags kind ≡ true →
    has_end_tag mode.last_start_tag ≡ false → IsTextBefore table mode kind (60 ∷ []) kind 47
slash_before table mode kind k e =
    λ rest. sign_text table mode kind kind [] (47 ∷ rest)
    (and_right (has_end_tags kind) (ends_raw_text mode.last_start_tag (47 ∷ rest))
    (no_end_tag mode.last_start_tag (47 ∷ rest) e)) (slash_same kind rest k) refl

-- one more letter of the last start tag's name, which is given by its bytes
pub letter_goes : (last : Option (List ℕ)) (kind : RawKind) (letters name : List ℕ) (c : ℕ) → has_end_tags kind ≡ true →
    list_all is_letter letters ≡ true → is_letter c ≡ true → is_end_tag_front last letters ≡ true →
    last ≡ Some (chars name) → IsUtf8 name → is_at (to_ascii_lowercase c) name (length letters) ≡ true →
    is_raw_going last kind EndTagName (60 ∷ 47 ∷ (letters ++ c ∷ [])) ≡ true
letter_goes last kind letters name c k h l f s u a =
    let p = and_parts (is_name_of_letters (chars name)) (is_word_front (chars name) letters)
    (ap (λ o. is_end_tag_front o letters) (sym s) ∙ f) in
    let q = and_parts (nat_lt 0 (length (chars name))) (list_all (is_between 97 122) (chars name)) p.0 in
    let bytes : name ≡ chars name =
    ascii_text name u (all_pass (is_between 97 122) is_ascii (chars name) lower_ascii q.1) in
    let front : is_end_tag_front (Some (chars name)) (letters ++ c ∷ []) ≡ true =
    and_from (is_name_of_letters (chars name)) (is_word_front (chars name) (letters ++ c ∷ [])) p.0
    (front_more (chars name) letters c p.1 (ap (λ n. is_at (to_ascii_lowercase c) n (length letters)) (sym bytes) ∙
    a)) in
    and_from (is_raw_held kind EndTagName (60 ∷ 47 ∷ (letters ++ c ∷ []))) (is_end_tag_front last (letters ++ c ∷ []))
    (and_from (has_end_tags kind) (list_all is_letter (letters ++ c ∷ [])) k
    (all_append is_letter letters (c ∷ []) h (and_from (is_letter c) true l refl)))
    (ap (λ o. is_end_tag_front o (letters ++ c ∷ [])) s ∙ front)

letter_before : (table : References) (mode : Mode) (kind : RawKind) (letters : List ℕ) (c : ℕ) →
    has_end_tags kind ≡ true → list_all is_letter letters ≡ true → is_letter c ≡ true →
    last_differs mode.last_start_tag letters c → IsTextBefore table mode kind (60 ∷ 47 ∷ letters) kind c
letter_before table mode kind letters c k h l d = tag_text table mode kind letters c k h (λ rest.
    let more : List ℕ = front_while is_letter rest in
    let front : front_while is_letter (letters ++ c ∷ rest) ≡ letters ++ c ∷ more = letters_on letters rest c h l in
    not_named mode.last_start_tag (front_while is_letter (letters ++ c ∷ rest))
    (rest_while is_letter (letters ++ c ∷ rest))
    (ap (λ n. is_last mode.last_start_tag (name_of n)) front ∙
    d more (all_append is_letter letters (c ∷ more) h
    (and_from (is_letter c) (list_all is_letter more) l (front_passes is_letter rest)))))

pub other_last : (table : References) (mode : Mode) (kind : RawKind) (letters name last : List ℕ) (c : ℕ) →
    has_end_tags kind ≡ true → list_all is_letter letters ≡ true → is_letter c ≡ true →
    mode.last_start_tag ≡ Some last → IsUtf8 name → chars name ≡ last →
    is_at (to_ascii_lowercase c) name (length letters) ≡ false → IsTextBefore table mode kind (60 ∷ 47 ∷ letters) kind c
other_last table mode kind letters name last c k h l e u s n =
    letter_before table mode kind letters c k h l (subst (λ o. last_differs o letters c) (ap (λ t. Some t) s ∙ sym e)
    (λ more a. other_letters name letters more c u a l n))

is_letters_byte : (c : ℕ) → is_letter c ≡ true → is_ascii c ≡ true
is_letters_byte c h = grind (arith, nat_tests)

pub letters_bytes : (letters : List ℕ) → IsUtf8 letters → list_all is_letter (chars letters) ≡ true →
    letters ≡ chars letters
letters_bytes letters u h = ascii_text letters u (all_pass is_letter is_ascii (chars letters) is_letters_byte h)

-- the test of a name
pub no_name : (letters : List ℕ) (b : Bool) → length letters ≡ 0 → false ≡ (nat_lt 0 (length (chars letters)) && b)
no_name letters b e =
    sym (and_left (nat_lt 0 (length (chars letters))) b (ap (λ l. nat_lt 0 (length l)) (no_bytes letters e)))

pub some_name : (letters : List ℕ) (b : Bool) → IsUtf8 letters → (length letters == 0) ≡ false →
    b ≡ (nat_lt 0 (length (chars letters)) && b)
some_name letters b u e = ap (λ t. t && b) (sym (lt-ltb 0 (length (chars letters)) (some_chars letters u e)))

-- after the letters, another character
pub tag_begun : (held name : List ℕ) → is_end_tag_begun held ≡ true → Some name ≡ after (codes "</") held →
    (held ≡ 60 ∷ 47 ∷ name) × (list_all is_letter name ≡ true)
tag_begun [] name h e = absurd cc
tag_begun (l ∷ []) name h e = absurd cc
tag_begun (l ∷ s ∷ cs) name h e =
    let p = and_parts (l == 60 && s == 47) (list_all is_letter cs) h in
    let q = and_parts (l == 60) (s == 47) p.0 in
    let n = (mark_found (codes "</") (l ∷ s ∷ cs) name e).1 in (
      ap (λ x. x ∷ s ∷ cs) (eqb-true l 60 q.0) ∙ ap (λ x. 60 ∷ x ∷ cs) (eqb-true s 47 q.1) ∙
          ap (λ x. 60 ∷ 47 ∷ x) (sym n),
      ap (list_all is_letter) n ∙ p.1,
    )

pub end_tag_held : (last : Option (List ℕ)) (kind : RawKind) (held : List ℕ) → is_raw_going last kind EndTagName held
    ≡ true → (has_end_tags kind ≡ true) × (is_end_tag_begun held ≡ true) × (is_end_tag_front last (drop 2 held) ≡ true)
end_tag_held last kind held h =
    let p = and_parts (is_raw_held kind EndTagName held) (is_end_tag_front last (drop 2 held)) h in
    let q = and_parts (has_end_tags kind) (is_end_tag_begun held) p.0 in
    (q.0, q.1, p.1)

pub tag_not_begun : (held : List ℕ) → is_end_tag_begun held ≡ true → None ≡ after (codes "</") held → ⊥
tag_not_begun [] h e = cc
tag_not_begun (l ∷ []) h e = cc
tag_not_begun (l ∷ s ∷ cs) h e =
    let p = and_parts (l == 60 && s == 47) (list_all is_letter cs) h in
    let q = and_parts (l == 60) (s == 47) p.0 in
    both_ways (begins (codes "</") (l ∷ s ∷ cs)) (no_mark (codes "</") (l ∷ s ∷ cs) e)
    (and_from (l == 60) (begins (codes "/") (s ∷ cs)) q.0 (and_from (s == 47) true q.1 refl))

named_here : (last : Option (List ℕ)) (letters rest : List ℕ) (c : ℕ) → list_all is_letter letters ≡ true →
    is_letter c ≡ false → named_end_tag last letters (c ∷ rest) ≡ is_named last (letters ++ c ∷ rest)
named_here last letters rest c h n =
    let front : front_while is_letter (letters ++ c ∷ rest) ≡ letters =
    front_on is_letter letters (c ∷ rest) h ∙ ap (λ l. letters ++ l) (front_off is_letter c rest n) ∙
    append-nil letters in
    let trailing : rest_while is_letter (letters ++ c ∷ rest) ≡ c ∷ rest =
    rest_on is_letter letters (c ∷ rest) h ∙ rest_off is_letter c rest n in
    sym (ap (λ f. named_end_tag last f (rest_while is_letter (letters ++ c ∷ rest))) front ∙
    ap (named_end_tag last letters) trailing)

pub name_goes_on : (table : References) (mode : Mode) (kind : RawKind) (letters : List ℕ) (c : ℕ) →
    has_end_tags kind ≡ true → list_all is_letter letters ≡ true → is_letter c ≡ false → ends_tag_name c ≡ false →
    IsTextBefore table mode kind (60 ∷ 47 ∷ letters) kind c
name_goes_on table mode kind letters c k h n e = tag_text table mode kind letters c k h (λ rest.
    sym (named_here mode.last_start_tag letters rest c h n) ∙
    and_right (nat_lt 0 (length letters) && is_last mode.last_start_tag (name_of letters)) (ends_tag_name c) e)

pub other_name : (table : References) (mode : Mode) (kind : RawKind) (letters : List ℕ) (c : ℕ) →
    has_end_tags kind ≡ true → list_all is_letter letters ≡ true → is_letter c ≡ false →
    (nat_lt 0 (length letters) && is_last mode.last_start_tag (name_of letters)) ≡ false →
    IsTextBefore table mode kind (60 ∷ 47 ∷ letters) kind c
other_name table mode kind letters c k h n e = tag_text table mode kind letters c k h (λ rest.
    sym (named_here mode.last_start_tag letters rest c h n) ∙
    and_left (nat_lt 0 (length letters) && is_last mode.last_start_tag (name_of letters)) (ends_tag_name c) e)

map_twice : {X Y Z : Type 0} (f : Y → Z) (g : X → Y) (o : Option X) → option_map f (option_map g o)
    ≡ option_map (λ x. f (g x)) o
map_twice f g None = refl
map_twice f g (Some x) = refl

in_name : (kind : TagKind) (letters : List ℕ) → list_all is_letter letters ≡ true → IsInTag kind TagName letters
in_name kind letters h = λ table rest.
    let p : ℕ → Bool = λ c. not (ends_tag_name c) in
    map_twice (λ read. read.1) (λ end. (tag_of kind (front_while p (letters ++ rest)) end, end.rest))
    (tag_end table (rest_while p (letters ++ rest)))
    ∙ ap (λ cs. tag_rest table cs) (rest_on p letters rest (all_pass is_letter p letters letter_in_name h)) where
      letter_in_name : (c : ℕ) → is_letter c ≡ true → not (ends_tag_name c) ≡ true
      letter_in_name c h = grind (arith, nat_tests)

pub last_name : (table : References) (foreign : Bool) (mode : Mode) (kind : RawKind) (letters : List ℕ) (c : ℕ) →
    has_end_tags kind ≡ true → list_all is_letter letters ≡ true → is_letter c ≡ false → ends_tag_name c ≡ true →
    (nat_lt 0 (length letters) && is_last mode.last_start_tag (name_of letters)) ≡ true →
    IsEndTag table foreign mode kind (60 ∷ 47 ∷ letters) c letters
last_name table foreign mode kind letters c k h n e l = record {
  is_tag = λ rest.
      let named : is_named mode.last_start_tag (letters ++ c ∷ rest) ≡ true =
      sym (named_here mode.last_start_tag letters rest c h n) ∙ and_from
      (nat_lt 0 (length letters) && is_last mode.last_start_tag (name_of letters)) (ends_tag_name c) l e in
      sym (chosen_true (has_end_tags kind && ends_raw_text mode.last_start_tag (47 ∷ (letters ++ c ∷ rest))) _ _
      (and_from (has_end_tags kind) _ k named));
  in_name = in_name EndTagKind letters h;
}

pub end_mark : chars (codes "</") ≡ codes "</"
unfolding chars
end_mark = refl

pub no_letter : (c : ℕ) → is_ascii_alphabetic c ≡ false → is_letter c ≡ false
no_letter c h = grind (arith, nat_tests)
