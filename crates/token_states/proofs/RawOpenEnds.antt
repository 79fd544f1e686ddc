-- What is held of the text of an element is no lexeme yet: some text after it makes a tag of it, or begins another
-- kind of text.
use Rattle.std.proofs.Common.{◌≡◌, ◌==◌, ◌&&◌, ◌||◌, [], ◌∷◌, ◌++◌, ◌∙◌, Bool, IsTrue, List, None, Option, Some, ap}
use Rattle.std.proofs.Common.{append_assoc, arith, codes, drop, false, inl, inr, length, nat_lt, not, option_map, refl}
use Rattle.std.proofs.Common.{subst, suc, sym, true, zero, ℕ}
use Rattle.std.proofs.lemmas.Bool.{and_from, and_parts, and_right, eqb-true}
use Rattle.std.proofs.lemmas.Bool.Decides.{nat_tests}
use Rattle.std.proofs.lemmas.Slice.Eq.{bytes_eq-Decides}
use Rattle.std.specs.Char.{to_ascii_lowercase}
use Rattle.std.specs.List.{list_all}
use Rattle.lex_base.specs.References.{References, is_between}
use Rattle.html_lexemes.specs.declared.states.RawKind.{RawKind}
use Rattle.html_lexemes.specs.declared.states.RawKind.TheVariants.{Rcdata, Rawtext, ScriptData, ScriptDataEscaped}
use Rattle.html_lexemes.specs.declared.states.ScriptEscapeKind.{ScriptEscapeKind}
use Rattle.html_lexemes.specs.declared.states.ScriptEscapeKind.TheVariants.{Escaped, DoubleEscaped}
use Rattle.html_lexemes.specs.declared.token.Tag.{Tag}
use Rattle.html_lexemes.specs.declared.token.TagKind.TheVariants.{EndTag as EndTagKind}
use Rattle.token_grammar.specs.Characters.{is_letter, name_of, shown}
use Rattle.token_grammar.specs.Items.{Item, characters}
use Rattle.token_grammar.specs.Lexemes.{Lexeme, begins_tag, emitted, ends_raw_text, has_end_tags, in_kind, is_last}
use Rattle.token_grammar.specs.Lexemes.{lexeme, nothing, tag_lexeme, tagged}
use Rattle.token_grammar.specs.Slices.{begins_word, first_passes, front_while, rest_while}
use Rattle.token_grammar.specs.Tags.{ends_tag_name, tag_at}
use Rattle.token_grammar.specs.declared.modes.Mode.{Mode}
use Rattle.token_grammar.specs.declared.modes.TextKind.TheVariants.{Raw}
use Rattle.token_states.specs.Goings.{has_end_tag, is_end_tag_front, is_name_of_letters, is_raw_going, may_begin}
use Rattle.token_states.specs.OpenEnds.{IsOpenEnded, is_steady}
use Rattle.token_states.specs.RawHeld.{other_part}
use Rattle.token_states.specs.RawSound.{is_end_tag_begun, is_escape_begun, is_escaped, is_less_than_sign}
use Rattle.token_states.specs.RawSound.{is_one_dash_or_two, is_script_data, is_word_begun, is_word_front, word_of}
use Rattle.token_states.specs.RawTurns.{IsEndTag}
use Rattle.token_states.specs.Turns.{with_more}
use Rattle.token_states.specs.declared.place.LexemeState.TheVariants.{RawText}
use Rattle.token_states.specs.declared.place.RawPlace.{RawPlace}
use Rattle.token_states.specs.declared.place.RawPlace.TheVariants.{Dashes, EndTagName, EscapeStart, EscapeWord}
use Rattle.token_states.specs.declared.place.RawPlace.TheVariants.{LessThanSign}
use Rattle.token_states.proofs.DashLemmas.{dash_or_dashes, escaped}
use Rattle.token_states.proofs.EndTagLemmas.{all_pass, last_name, letter_shown, rest_on, slash_same}
use Rattle.token_states.proofs.EscapeStartLemmas.{begun, script_data}
use Rattle.token_states.proofs.EscapeWordLemmas.{changes, sign_and_text, stays}
use Rattle.token_states.proofs.RawTextLemmas.{IsOne, one}
use Rattle.token_states.proofs.WordLemmas.{whole_word}

-- ---- what is text with nothing after it is no lexeme if with some text after it a tag stands there, or another mode
-- begins

same_mode : (l : Lexeme) (rest left other : List ℕ) (items more : List Item) (trailing later : Mode) →
    emitted items trailing left ≡ with_more [] l → emitted more later other ≡ with_more rest l → trailing ≡ later
same_mode nothing rest left other items more trailing later e f = absurd cc
same_mode (emitted i b r) rest left other items more trailing later e f = cc
same_mode (tagged t r) rest left other items more trailing later e f = absurd cc

no_tag : (l : Lexeme) (rest left other : List ℕ) (items : List Item) (trailing : Mode) (t : Tag) →
    emitted items trailing left ≡ with_more [] l → tagged t other ≡ with_more rest l → ⊥
no_tag nothing rest left other items trailing t e f = cc
no_tag (emitted i b r) rest left other items trailing t e f = cc
no_tag (tagged u r) rest left other items trailing t e f = cc

no_tag_read : (l : Lexeme) (rest left : List ℕ) (items : List Item) (trailing : Mode) (o : Option (Tag × List ℕ)) →
    option_map (λ (read : Tag × List ℕ). read.1) o ≡ Some [] → emitted items trailing left ≡ with_more [] l →
    tag_lexeme o ≡ with_more rest l → ⊥
no_tag_read l rest left items trailing None s e f = cc
no_tag_read l rest left items trailing (Some read) s e f = no_tag l rest left read.1 items trailing read.0 e f

same_kind : (mode : Mode) (kind other : RawKind) → in_kind mode kind ≡ in_kind mode other → kind ≡ other
same_kind mode kind other e =
    let t : Raw kind ≡ Raw other = ap (λ (m : Mode). m.text) e in
    cc

module _ (table : References) (foreign : Bool) (mode : Mode) (kind : RawKind) (place : RawPlace) (c : ℕ)
    (cs rest : List ℕ) (steady : is_steady rest ≡ true) (here : IsOne table foreign mode kind c kind (cs ++ [])) where
  by_kind : (other : RawKind) → IsOne table foreign mode kind c other (cs ++ rest) → (kind ≡ other → ⊥) →
      IsOpenEnded table foreign mode (RawText kind place) (c ∷ cs)
  by_kind other there apart = λ l h.
      apart (same_kind mode kind other (same_mode l rest (cs ++ []) (cs ++ rest) (characters (c ∷ []) ∷ [])
      (characters (c ∷ []) ∷ []) (in_kind mode kind) (in_kind mode other) (sym here ∙ h [] refl)
      (sym there ∙ h rest steady)))

  by_tag : (o : Option (Tag × List ℕ)) → option_map (λ (read : Tag × List ℕ). read.1) o ≡ Some [] →
      lexeme table foreign (in_kind mode kind) (c ∷ (cs ++ rest)) ≡ tag_lexeme o →
      IsOpenEnded table foreign mode (RawText kind place) (c ∷ cs)
  by_tag o some there =
      λ l h. no_tag_read l rest (cs ++ []) (characters (c ∷ []) ∷ []) (in_kind mode kind) o some (sym here ∙ h [] refl)
      (sym there ∙ h rest steady)

-- ---- what is left of a word of which a front is held, ASCII case aside, and `>`

abbrev left_of : List ℕ → List ℕ → List ℕ
left_of word held = drop (length held) word ++ 62 ∷ []

left_passes : (p : ℕ → Bool) → p 62 ≡ true → (n : ℕ) (word : List ℕ) → list_all p word ≡ true →
    list_all p (drop n word ++ 62 ∷ []) ≡ true
left_passes p e zero [] h = and_from (p 62) true e refl
left_passes p e (suc n) [] h = and_from (p 62) true e refl
left_passes p e zero (w ∷ ws) h =
    let q = and_parts (p w) (list_all p ws) h in
    and_from (p w) (list_all p (ws ++ 62 ∷ [])) q.0 (left_passes p e zero ws q.1)
left_passes p e (suc n) (w ∷ ws) h = left_passes p e n ws (and_parts (p w) (list_all p ws) h).1

steady_left : (word held : List ℕ) → is_steady word ≡ true → is_steady (left_of word held) ≡ true
steady_left word held h = left_passes (λ c. not (c == 10 || c == 13 || c == 0xFEFF)) refl (length held) word h

abbrev whole_of : List ℕ → List ℕ → List ℕ
whole_of word held = held ++ drop (length held) word

abbrev is_lower : ℕ → Bool
is_lower w = to_ascii_lowercase w == w

whole_front : (word held : List ℕ) → list_all is_lower word ≡ true → is_word_front word held ≡ true →
    is_word_front word (whole_of word held) ≡ true
whole_front [] [] l h = refl
whole_front (w ∷ ws) [] l h =
    let p = and_parts (is_lower w) (list_all is_lower ws) l in
    and_from (is_lower w) (is_word_front ws ws) p.0 (whole_front ws [] p.1 refl)
whole_front [] (c ∷ cs) l h = absurd cc
whole_front (w ∷ ws) (c ∷ cs) l h =
    let p = and_parts (to_ascii_lowercase c == w) (is_word_front ws cs) h in
    and_from (to_ascii_lowercase c == w) (is_word_front ws (whole_of ws cs)) p.0
    (whole_front ws cs (and_parts (is_lower w) (list_all is_lower ws) l).1 p.1)

whole_length : (word held : List ℕ) → is_word_front word held ≡ true → length (whole_of word held) ≡ length word
whole_length word [] h = refl
whole_length [] (c ∷ cs) h = absurd cc
whole_length (w ∷ ws) (c ∷ cs) h =
    ap suc (whole_length ws cs (and_parts (to_ascii_lowercase c == w) (is_word_front ws cs) h).1)

-- a tag does not begin before its name ends
no_end_yet : (word held : List ℕ) → is_word_front word held ≡ true →
    first_passes ends_tag_name (drop (length word) (held ++ [])) ≡ false
no_end_yet [] [] h = refl
no_end_yet (w ∷ ws) [] h = refl
no_end_yet [] (c ∷ cs) h = absurd cc
no_end_yet (w ∷ ws) (c ∷ cs) h = no_end_yet ws cs (and_parts (to_ascii_lowercase c == w) (is_word_front ws cs) h).1

no_tag_yet : (word held : List ℕ) → is_word_front word held ≡ true → begins_tag word (held ++ []) ≡ false
no_tag_yet word held h =
    and_right (begins_word word (held ++ [])) (first_passes ends_tag_name (drop (length word) (held ++ [])))
    (no_end_yet word held h)

tag_then : (word held : List ℕ) → list_all is_lower word ≡ true → is_word_front word held ≡ true →
    begins_tag word (held ++ left_of word held) ≡ true
tag_then word held l h =
    ap (begins_tag word) (sym (append_assoc held (drop (length held) word) (62 ∷ []))) ∙
    whole_word word (whole_of word held) 62 [] true (whole_front word held l h) (whole_length word held h) refl

-- ---- the same of the name of the last start tag

abbrev is_lower_letter : ℕ → Bool
is_lower_letter w = is_between 97 122 w

lower_steady : (w : ℕ) → is_lower_letter w ≡ true → not (w == 10 || w == 13 || w == 0xFEFF) ≡ true
lower_steady w h = grind (arith, nat_tests)

lower_is_letter : (w : ℕ) → is_lower_letter w ≡ true → is_letter w ≡ true
lower_is_letter w h = grind (arith, nat_tests)

lower_is_name : (w : ℕ) → is_lower_letter w ≡ true → to_ascii_lowercase (shown w) ≡ w
lower_is_name w h = grind (arith, nat_tests)

own_name : (name : List ℕ) → list_all is_lower_letter name ≡ true → name_of name ≡ name
own_name [] h = refl
own_name (w ∷ ws) h =
    let p = and_parts (is_lower_letter w) (list_all is_lower_letter ws) h in
    ap (λ x. x ∷ name_of ws) (lower_is_name w p.0) ∙ ap (λ x. w ∷ x) (own_name ws p.1)

whole_letters : (name letters : List ℕ) → list_all is_lower_letter name ≡ true → is_word_front name letters ≡ true →
    list_all is_letter letters ≡ true → list_all is_letter (whole_of name letters) ≡ true
whole_letters name [] n h l = all_pass is_lower_letter is_letter name lower_is_letter n
whole_letters [] (c ∷ cs) n h l = absurd cc
whole_letters (w ∷ ws) (c ∷ cs) n h l =
    let p = and_parts (is_letter c) (list_all is_letter cs) l in
    and_from (is_letter c) (list_all is_letter (whole_of ws cs)) p.0
    (whole_letters ws cs (and_parts (is_lower_letter w) (list_all is_lower_letter ws) n).1
    (and_parts (to_ascii_lowercase c == w) (is_word_front ws cs) h).1 p.1)

whole_name : (name letters : List ℕ) → list_all is_lower_letter name ≡ true → is_word_front name letters ≡ true →
    list_all is_letter letters ≡ true → name_of (whole_of name letters) ≡ name
whole_name name [] n h l = own_name name n
whole_name [] (c ∷ cs) n h l = absurd cc
whole_name (w ∷ ws) (c ∷ cs) n h l =
    let p = and_parts (is_letter c) (list_all is_letter cs) l in
    let q = and_parts (to_ascii_lowercase c == w) (is_word_front ws cs) h in
    ap (λ x. x ∷ name_of (whole_of ws cs)) (sym (letter_shown c p.0) ∙ eqb-true (to_ascii_lowercase c) w q.0) ∙
    ap (λ x. w ∷ x) (whole_name ws cs (and_parts (is_lower_letter w) (list_all is_lower_letter ws) n).1 q.1 p.1)

-- letters are a front of the last start tag's name
record IsFront (last : Option (List ℕ)) (letters : List ℕ) : Type 0 where
  name : List ℕ
  is : last ≡ Some name
  some : nat_lt 0 (length name) ≡ true
  lower : list_all is_lower_letter name ≡ true
  front : is_word_front name letters ≡ true

front_of : (last : Option (List ℕ)) (letters : List ℕ) → is_end_tag_front last letters ≡ true → IsFront last letters
front_of None letters h = absurd cc
front_of (Some name) letters h =
    let p = and_parts (is_name_of_letters name) (is_word_front name letters) h in
    let q = and_parts (nat_lt 0 (length name)) (list_all is_lower_letter name) p.0 in
    record { name = name; is = refl; some = q.0; lower = q.1; front = p.1 }

any_front : (last : Option (List ℕ)) → has_end_tag last ≡ true → is_end_tag_front last [] ≡ true
any_front None h = h
any_front (Some name) h = and_from (is_name_of_letters name) true h refl

name_length : (cs : List ℕ) → length (name_of cs) ≡ length cs
name_length [] = refl
name_length (c ∷ cs) = ap suc (name_length cs)

is_whole : (last : Option (List ℕ)) (letters : List ℕ) (f : IsFront last letters) → list_all is_letter letters ≡ true →
    (nat_lt 0 (length (whole_of f.name letters)) && is_last last (name_of (whole_of f.name letters))) ≡ true
is_whole last letters f l =
    let cs = whole_of f.name letters in
    let same : name_of cs ≡ f.name = whole_name f.name letters f.lower f.front l in
    and_from (nat_lt 0 (length cs)) (is_last last (name_of cs))
    (ap (nat_lt 0) (sym (name_length cs) ∙ ap length same) ∙ f.some)
    (ap (λ o. is_last o (name_of cs)) f.is ∙ (bytes_eq-Decides f.name (name_of cs)).1 (sym same))

-- ---- place by place

sign_alone : (held : List ℕ) → is_less_than_sign held ≡ true → held ≡ 60 ∷ []
sign_alone [] h = absurd cc
sign_alone (c ∷ []) h = ap (λ x. x ∷ []) (eqb-true c 60 h)
sign_alone (c ∷ d ∷ cs) h = absurd cc

tag_alone : (held : List ℕ) → is_end_tag_begun held ≡ true → (held ≡ 60 ∷ 47 ∷ drop 2 held)
    × (list_all is_letter (drop 2 held) ≡ true)
tag_alone [] h = absurd cc
tag_alone (c ∷ []) h = absurd cc
tag_alone (c ∷ d ∷ cs) h =
    let p = and_parts (c == 60 && d == 47) (list_all is_letter cs) h in
    let q = and_parts (c == 60) (d == 47) p.0 in
    (ap (λ x. x ∷ d ∷ cs) (eqb-true c 60 q.0) ∙ ap (λ x. 60 ∷ x ∷ cs) (eqb-true d 47 q.1), p.1)

word_lower : (kind : RawKind) → list_all is_lower (word_of kind) ≡ true
word_lower Rcdata = refl
word_lower Rawtext = refl
word_lower ScriptData = refl
word_lower (ScriptDataEscaped Escaped) = refl
word_lower (ScriptDataEscaped DoubleEscaped) = refl

word_steady : (kind : RawKind) → is_steady (word_of kind) ≡ true
word_steady Rcdata = refl
word_steady Rawtext = refl
word_steady ScriptData = refl
word_steady (ScriptDataEscaped Escaped) = refl
word_steady (ScriptDataEscaped DoubleEscaped) = refl

parts_differ : (kind : RawKind) → is_escaped kind ≡ true → kind ≡ other_part kind → ⊥
parts_differ Rcdata e = absurd cc
parts_differ Rawtext e = absurd cc
parts_differ ScriptData e = absurd cc
parts_differ (ScriptDataEscaped Escaped) e = λ s. cc
parts_differ (ScriptDataEscaped DoubleEscaped) e = λ s. cc

module _ (table : References) (foreign : Bool) (mode : Mode) where
  abbrev IsOpen : RawKind → RawPlace → List ℕ → Type 0
  IsOpen kind place held = IsOpenEnded table foreign mode (RawText kind place) held

  -- `</` and letters are text where nothing follows them
  letters_alone : (kind : RawKind) (letters : List ℕ) → has_end_tags kind ≡ true → list_all is_letter letters ≡ true →
      IsOne table foreign mode kind 60 kind (47 ∷ (letters ++ []))
  letters_alone kind letters k l =
      let name = front_while is_letter (letters ++ []) in
      let no : ends_raw_text mode.last_start_tag (47 ∷ (letters ++ [])) ≡ false =
      and_right (nat_lt 0 (length name) && is_last mode.last_start_tag (name_of name))
      (first_passes ends_tag_name (rest_while is_letter (letters ++ [])))
      (ap (first_passes ends_tag_name) (rest_on is_letter letters [] l)) in
      one table foreign mode kind kind 60 (47 ∷ (letters ++ []))
      (and_right (has_end_tags kind) (ends_raw_text mode.last_start_tag (47 ∷ (letters ++ []))) no) refl refl
      (slash_same kind (letters ++ []) k)

  -- the end tag that the letters and the rest of the name are
  module _ (kind : RawKind) (letters : List ℕ) (k : has_end_tags kind ≡ true) (l : list_all is_letter letters ≡ true)
      (f : IsFront mode.last_start_tag letters) where
    end_tag : IsEndTag table foreign mode kind (60 ∷ 47 ∷ whole_of f.name letters) 62 (whole_of f.name letters)
    end_tag =
        last_name table foreign mode kind (whole_of f.name letters) 62 k
        (whole_letters f.name letters f.lower f.front l) refl refl (is_whole mode.last_start_tag letters f l)

    abbrev read : Option (Tag × List ℕ)
    read = tag_at table EndTagKind (whole_of f.name letters ++ 62 ∷ [])

    is_read : lexeme table foreign (in_kind mode kind) (60 ∷ 47 ∷ (letters ++ left_of f.name letters)) ≡ tag_lexeme read
    is_read =
        ap (λ cs. lexeme table foreign (in_kind mode kind) (60 ∷ 47 ∷ cs))
        (sym (append_assoc letters (drop (length letters) f.name) (62 ∷ []))) ∙ end_tag.is_tag []

    is_steady_left : is_steady (left_of f.name letters) ≡ true
    is_steady_left =
        steady_left f.name letters
        (all_pass is_lower_letter (λ c. not (c == 10 || c == 13 || c == 0xFEFF)) f.name lower_steady f.lower)

    letters_open : (place : RawPlace) → IsOpen kind place (60 ∷ 47 ∷ letters)
    letters_open place =
        by_tag table foreign mode kind place 60 (47 ∷ letters) (left_of f.name letters) is_steady_left
        (letters_alone kind letters k l) read (end_tag.in_name table (62 ∷ [])) is_read

  sign_tag : (kind : RawKind) → has_end_tags kind ≡ true → IsOne table foreign mode kind 60 kind [] →
      has_end_tag mode.last_start_tag ≡ true → IsOpen kind LessThanSign (60 ∷ [])
  sign_tag kind k here e =
      let f = front_of mode.last_start_tag [] (any_front mode.last_start_tag e) in
      by_tag table foreign mode kind LessThanSign 60 [] (47 ∷ left_of f.name []) (is_steady_left kind [] k refl f) here
      (read kind [] k refl f) ((end_tag kind [] k refl f).in_name table (62 ∷ [])) (is_read kind [] k refl f)

  sign_open : (kind : RawKind) → may_begin mode.last_start_tag kind ≡ true → IsOpen kind LessThanSign (60 ∷ [])
  sign_open Rcdata m = sign_tag Rcdata refl refl m
  sign_open Rawtext m = sign_tag Rawtext refl refl m
  sign_open ScriptData m =
      by_kind table foreign mode ScriptData LessThanSign 60 [] (codes "!--") refl refl (ScriptDataEscaped Escaped) refl
      (λ e. cc)
  sign_open (ScriptDataEscaped Escaped) m =
      by_kind table foreign mode (ScriptDataEscaped Escaped) LessThanSign 60 [] (codes "script>") refl refl
      (ScriptDataEscaped DoubleEscaped) refl (λ e. cc)
  sign_open (ScriptDataEscaped DoubleEscaped) m =
      by_kind table foreign mode (ScriptDataEscaped DoubleEscaped) LessThanSign 60
      [] (codes "/script>") refl refl (ScriptDataEscaped Escaped) refl (λ e. cc)

  at_sign : (kind : RawKind) (held : List ℕ) → is_less_than_sign held ≡ true → may_begin mode.last_start_tag kind
      ≡ true → IsOpen kind LessThanSign held
  at_sign kind held s m = subst (IsOpen kind LessThanSign) (sym (sign_alone held s)) (sign_open kind m)

  at_name : (kind : RawKind) (held : List ℕ) → has_end_tags kind ≡ true → is_end_tag_begun held ≡ true →
      is_end_tag_front mode.last_start_tag (drop 2 held) ≡ true → IsOpen kind EndTagName held
  at_name kind held k b e =
      let t = tag_alone held b in
      subst (IsOpen kind EndTagName) (sym t.0) (letters_open kind (drop 2 held) k t.1
      (front_of mode.last_start_tag (drop 2 held) e) EndTagName)

  start_open : (held : List ℕ) → is_escape_begun held ≡ true → IsOpen ScriptData EscapeStart held
  start_open held b = elim (begun held b) [
    | inl e ↦ subst (IsOpen ScriptData EscapeStart) (sym e)
        (by_kind table foreign mode ScriptData EscapeStart 60 (codes "!") (codes "--") refl refl
        (ScriptDataEscaped Escaped) refl (λ d. cc))
    | inr e ↦ subst (IsOpen ScriptData EscapeStart) (sym e)
        (by_kind table foreign mode ScriptData EscapeStart 60 (codes "!-") (codes "-") refl refl
        (ScriptDataEscaped Escaped) refl (λ d. cc))
  ]

  at_start : (kind : RawKind) (held : List ℕ) → is_script_data kind ≡ true → is_escape_begun held ≡ true →
      IsOpen kind EscapeStart held
  at_start kind held k b = subst (λ x. IsOpen x EscapeStart held) (sym (script_data kind k)) (start_open held b)

  at_word : (kind : RawKind) (held : List ℕ) → is_escaped kind ≡ true → is_word_begun (word_of kind) held ≡ true →
      IsOpen kind EscapeWord held
  at_word kind held e b =
      let t = sign_and_text kind held e b in
      let word = word_of kind in
      let left = left_of word held in
      let front = (and_parts (nat_lt 1 (length held)) (is_word_front word held) b).1 in
      let here : IsOne table foreign mode kind 60 kind (t.text ++ []) =
      one table foreign mode kind kind 60 (t.text ++ []) (t.no_end mode.last_start_tag []) refl refl
      (stays kind (60 ∷ (t.text ++ [])) e refl (ap (λ cs. begins_tag word (cs ++ [])) (sym t.is) ∙
      no_tag_yet word held front)) in
      let there : IsOne table foreign mode kind 60 (other_part kind) (t.text ++ left) =
      one table foreign mode kind (other_part kind) 60 (t.text ++ left)
      (t.no_end mode.last_start_tag left) refl refl
      (changes kind (60 ∷ (t.text ++ left)) e refl
      (ap (λ cs. begins_tag word (cs ++ left)) (sym t.is) ∙ tag_then word held (word_lower kind) front)) in
      subst (IsOpen kind EscapeWord) (sym t.is) (by_kind table foreign mode kind EscapeWord 60 t.text left
      (steady_left word held (word_steady kind)) here (other_part kind) there (parts_differ kind e))

  dash_open : (escape : ScriptEscapeKind) → IsOpen (ScriptDataEscaped escape) Dashes (45 ∷ [])
  dash_open Escaped =
      by_kind table foreign mode (ScriptDataEscaped Escaped) Dashes 45 [] (codes "->") refl refl ScriptData refl
      (λ e. cc)
  dash_open DoubleEscaped =
      by_kind table foreign mode (ScriptDataEscaped DoubleEscaped) Dashes 45 [] (codes "->") refl refl ScriptData refl
      (λ e. cc)

  dashes_open : (escape : ScriptEscapeKind) → IsOpen (ScriptDataEscaped escape) Dashes (45 ∷ 45 ∷ [])
  dashes_open Escaped =
      by_kind table foreign mode (ScriptDataEscaped Escaped) Dashes 45 (45 ∷ []) (codes ">") refl refl ScriptData refl
      (λ e. cc)
  dashes_open DoubleEscaped =
      by_kind table foreign mode (ScriptDataEscaped DoubleEscaped) Dashes 45 (45 ∷ [])
      (codes ">") refl refl ScriptData refl (λ e. cc)

  at_dashes : (kind : RawKind) (held : List ℕ) → is_escaped kind ≡ true → is_one_dash_or_two held ≡ true →
      IsOpen kind Dashes held
  at_dashes kind held k d =
      let s = escaped kind k in
      subst (λ x. IsOpen x Dashes held) (sym s.is) (elim (dash_or_dashes held d) [
        | inl e ↦ subst (IsOpen (ScriptDataEscaped s.escape) Dashes) (sym e) (dash_open s.escape)
        | inr e ↦ subst (IsOpen (ScriptDataEscaped s.escape) Dashes) (sym e) (dashes_open s.escape)
      ])

pub raw_open : (table : References) (foreign : Bool) (mode : Mode) (kind : RawKind) (place : RawPlace) (held : List ℕ) →
    IsTrue (is_raw_going mode.last_start_tag kind place held) → IsOpenEnded table foreign mode (RawText kind place) held
raw_open table foreign mode kind LessThanSign held h =
    let p = and_parts (is_less_than_sign held) (may_begin mode.last_start_tag kind) h in
    at_sign table foreign mode kind held p.0 p.1
raw_open table foreign mode kind EndTagName held h =
    let p = and_parts (has_end_tags kind && is_end_tag_begun held)
    (is_end_tag_front mode.last_start_tag (drop 2 held)) h in
    let q = and_parts (has_end_tags kind) (is_end_tag_begun held) p.0 in
    at_name table foreign mode kind held q.0 q.1 p.1
raw_open table foreign mode kind EscapeStart held h =
    let p = and_parts (is_script_data kind) (is_escape_begun held) h in
    at_start table foreign mode kind held p.0 p.1
raw_open table foreign mode kind EscapeWord held h =
    let p = and_parts (is_escaped kind) (is_word_begun (word_of kind) held) h in
    at_word table foreign mode kind held p.0 p.1
raw_open table foreign mode kind Dashes held h =
    let p = and_parts (is_escaped kind) (is_one_dash_or_two held) h in
    at_dashes table foreign mode kind held p.0 p.1
