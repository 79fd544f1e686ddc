-- The turn in the word that begins the other escaped part.
use Rattle.std.proofs.Common.{◌≡◌, ◌≢◌, ◌==◌, ◌&&◌, [], ◌∷◌, ◌++◌, ◌∙◌, Bool, IsUtf8, List, Option, ap, arith, codes}
use Rattle.std.proofs.Common.{false, length, length-append, nat_lt, refl, subst, sym, true, ℕ}
use Rattle.std.proofs.lemmas.Bool.{and_from, and_parts, and_left}
use Rattle.std.proofs.lemmas.Bool.Decides.{nat_tests}
use Rattle.std.specs.Char.{to_ascii_lowercase}
use Rattle.std.specs.List.{list_all}
use Rattle.std.specs.Str.{chars}
use Rattle.lex_base.specs.References.{References}
use Rattle.html_lexemes.specs.declared.states.RawKind.{RawKind}
use Rattle.html_lexemes.specs.declared.states.RawKind.TheVariants.{Rcdata, Rawtext, ScriptData, ScriptDataEscaped}
use Rattle.html_lexemes.specs.declared.states.ScriptEscapeKind.TheVariants.{Escaped, DoubleEscaped}
use Rattle.token_grammar.specs.Lexemes.{begins_tag, ends_raw_text, has_end_tags, kind_after}
use Rattle.token_grammar.specs.Slices.{begins}
use Rattle.token_grammar.specs.Tags.{ends_tag_name}
use Rattle.token_grammar.specs.declared.modes.Mode.{Mode}
use Rattle.token_grammar.proofs.LexemeLemmas.{doubled, undoubled}
use Rattle.token_states.specs.RawHeld.{is_at, other_part}
use Rattle.token_states.specs.RawSound.{is_escaped, is_raw_held, is_word_begun, is_word_front, word_of}
use Rattle.token_states.specs.RawTurns.{IsTextBefore}
use Rattle.token_states.specs.Turns.{is_raw_text}
use Rattle.token_states.specs.declared.place.RawPlace.TheVariants.{EscapeWord}
use Rattle.token_states.proofs.RawTextLemmas.{sign_text}
use Rattle.token_states.proofs.WordLemmas.{ascii_text, front_ascii, front_more, is_ascii, no_word_yet, whole_word}

abbrev is_plain : ℕ → Bool
is_plain c = is_raw_text (ScriptDataEscaped Escaped) c

lower_plain : (w c : ℕ) → is_plain w ≡ true → (to_ascii_lowercase c == w) ≡ true → is_plain c ≡ true
lower_plain w c h e = grind (arith, nat_tests)

plain_in : (part : RawKind) (c : ℕ) → is_plain c ≡ true → is_raw_text part c ≡ true
plain_in Rcdata c h = grind (arith, nat_tests)
plain_in Rawtext c h = grind (arith, nat_tests)
plain_in ScriptData c h = grind (arith, nat_tests)
plain_in (ScriptDataEscaped _) c h = h

front_plain : (part : RawKind) (word text : List ℕ) → list_all is_plain word ≡ true → is_word_front word text ≡ true →
    list_all (is_raw_text part) text ≡ true
front_plain part word [] a h = refl
front_plain part [] (c ∷ cs) a h = absurd cc
front_plain part (w ∷ ws) (c ∷ cs) a h =
    let p = and_parts (to_ascii_lowercase c == w) (is_word_front ws cs) h in
    let q = and_parts (is_plain w) (list_all is_plain ws) a in
    and_from (is_raw_text part c) (list_all (is_raw_text part) cs) (plain_in part c (lower_plain w c q.0 p.0))
    (front_plain part ws cs q.1 p.1)

-- what is held is `<` and text, which is no end tag
pub record IsSignAndText (kind : RawKind) (held : List ℕ) : Type 0 where
  pub text : List ℕ
  pub is : held ≡ 60 ∷ text
  pub no_end : (last : Option (List ℕ)) (rest : List ℕ) → (has_end_tags kind && ends_raw_text last (text ++ rest))
      ≡ false
  pub plain : (part : RawKind) → list_all (is_raw_text part) text ≡ true

sign : (x : ℕ) → (to_ascii_lowercase x == 60) ≡ true → x ≡ 60
sign x h = grind (arith, nat_tests)

no_slash : (d : ℕ) → (to_ascii_lowercase d == 115) ≡ true → (d == 47) ≡ false
no_slash d h = grind (arith, nat_tests)

pub sign_and_text : (kind : RawKind) (held : List ℕ) → is_escaped kind ≡ true → is_word_begun (word_of kind) held
    ≡ true → IsSignAndText kind held
sign_and_text Rcdata held e h = absurd cc
sign_and_text Rawtext held e h = absurd cc
sign_and_text ScriptData held e h = absurd cc
sign_and_text (ScriptDataEscaped part) [] e h = absurd cc
sign_and_text (ScriptDataEscaped part) (x ∷ []) e h = absurd cc
sign_and_text (ScriptDataEscaped Escaped) (x ∷ d ∷ more) e h =
    let p = and_parts (nat_lt 1 (length (x ∷ d ∷ more))) (is_word_front (codes "<script") (x ∷ d ∷ more)) h in
    let q = and_parts (to_ascii_lowercase x == 60) (is_word_front (codes "script") (d ∷ more)) p.1 in
    let r = and_parts (to_ascii_lowercase d == 115) (is_word_front (codes "cript") more) q.1 in
    record {
      text = d ∷ more;
      is = ap (λ y. y ∷ d ∷ more) (sign x q.0);
      no_end = λ last rest. and_left (begins (codes "/") (d ∷ (more ++ rest))) _
          (and_left (d == 47) true (no_slash d r.0));
      plain = λ part. front_plain part (codes "script") (d ∷ more) refl q.1;
    }
sign_and_text (ScriptDataEscaped DoubleEscaped) (x ∷ d ∷ more) e h =
    let p = and_parts (nat_lt 1 (length (x ∷ d ∷ more))) (is_word_front (codes "</script") (x ∷ d ∷ more)) h in
    let q = and_parts (to_ascii_lowercase x == 60) (is_word_front (codes "/script") (d ∷ more)) p.1 in
    record {
      text = d ∷ more;
      is = ap (λ y. y ∷ d ∷ more) (sign x q.0);
      no_end = λ last rest. refl;
      plain = λ part. front_plain part (codes "/script") (d ∷ more) refl q.1;
    }

word_ascii : (kind : RawKind) → list_all is_ascii (word_of kind) ≡ true
word_ascii Rcdata = refl
word_ascii Rawtext = refl
word_ascii ScriptData = refl
word_ascii (ScriptDataEscaped Escaped) = refl
word_ascii (ScriptDataEscaped DoubleEscaped) = refl

pub stays : (kind : RawKind) (cs : List ℕ) → is_escaped kind ≡ true → begins (codes "-->") cs ≡ false →
    begins_tag (word_of kind) cs ≡ false → kind_after kind cs ≡ kind
stays Rcdata cs e a b = absurd cc
stays Rawtext cs e a b = absurd cc
stays ScriptData cs e a b = absurd cc
stays (ScriptDataEscaped Escaped) cs e a b = sym (doubled cs false a b)
stays (ScriptDataEscaped DoubleEscaped) cs e a b = sym (undoubled cs false a b)

pub changes : (kind : RawKind) (cs : List ℕ) → is_escaped kind ≡ true → begins (codes "-->") cs ≡ false →
    begins_tag (word_of kind) cs ≡ true → kind_after kind cs ≡ other_part kind
changes Rcdata cs e a b = absurd cc
changes Rawtext cs e a b = absurd cc
changes ScriptData cs e a b = absurd cc
changes (ScriptDataEscaped Escaped) cs e a b = sym (doubled cs true a b)
changes (ScriptDataEscaped DoubleEscaped) cs e a b = sym (undoubled cs true a b)

longer : (held : List ℕ) (c : ℕ) → nat_lt 1 (length held) ≡ true → nat_lt 1 (length (held ++ c ∷ [])) ≡ true
longer held c h = simp length-append (grind (arith, nat_tests))

-- what is held, as its bytes `held` and the characters that they are
module _ (kind : RawKind) (held : List ℕ) (c : ℕ) (u : IsUtf8 held) (h : is_raw_held kind EscapeWord (chars held)
    ≡ true) (word : List ℕ) (w : word ≡ word_of kind) where
  in_escaped : is_escaped kind ≡ true
  in_escaped = (and_parts (is_escaped kind) (is_word_begun (word_of kind) (chars held)) h).0

  in_word : is_word_begun (word_of kind) (chars held) ≡ true
  in_word = (and_parts (is_escaped kind) (is_word_begun (word_of kind) (chars held)) h).1

  is_front : is_word_front (word_of kind) (chars held) ≡ true
  is_front = (and_parts (nat_lt 1 (length (chars held))) (is_word_front (word_of kind) (chars held)) in_word).1

  bytes : held ≡ chars held
  bytes = ascii_text held u (front_ascii (word_of kind) (chars held) (word_ascii kind) is_front)

  at_end : (b : Bool) → is_at (to_ascii_lowercase c) word (length held) ≡ b →
      is_at (to_ascii_lowercase c) (word_of kind) (length (chars held)) ≡ b
  at_end b e =
      ap (λ v. is_at (to_ascii_lowercase c) v (length (chars held))) (sym w) ∙ ap
      (λ l. is_at (to_ascii_lowercase c) word (length l)) (sym bytes) ∙ e

  pub word_goes_on : is_at (to_ascii_lowercase c) word (length held) ≡ true →
      is_raw_held kind EscapeWord (chars held ++ c ∷ []) ≡ true
  word_goes_on e =
      and_from (is_escaped kind) (is_word_begun (word_of kind) (chars held ++ c ∷ [])) in_escaped
      (and_from (nat_lt 1 (length (chars held ++ c ∷ []))) (is_word_front (word_of kind) (chars held ++ c ∷ []))
      (longer (chars held) c
      (and_parts (nat_lt 1 (length (chars held))) (is_word_front (word_of kind) (chars held)) in_word).0)
      (front_more (word_of kind) (chars held) c is_front (at_end true e)))

  before : (table : References) (mode : Mode) (trailing : RawKind) →
      ((rest : List ℕ) → begins (codes "-->") (chars held ++ c ∷ rest) ≡ false →
      kind_after kind (chars held ++ c ∷ rest) ≡ trailing) → IsTextBefore table mode kind (chars held) trailing c
  before table mode trailing k =
      let t = sign_and_text kind (chars held) in_escaped in_word in
      subst (λ l. IsTextBefore table mode kind l trailing c) (sym t.is) (λ rest.
      sign_text table mode kind trailing t.text (c ∷ rest) (t.no_end mode.last_start_tag (c ∷ rest))
      (ap (λ l. kind_after kind (l ++ c ∷ rest)) (sym t.is) ∙
      k rest (ap (λ l. begins (codes "-->") (l ++ c ∷ rest)) t.is)) (t.plain trailing))

  pub word_stops : length held ≢ length word → is_at (to_ascii_lowercase c) word (length held) ≡ false →
      (table : References) (mode : Mode) → IsTextBefore table mode kind (chars held) kind c
  word_stops n e = λ table mode. before table mode kind (λ rest a.
      stays kind (chars held ++ c ∷ rest) in_escaped a
      (no_word_yet (word_of kind) (chars held) c rest is_front (at_end false e)
      (λ m. n (ap length bytes ∙ m ∙ ap length (sym w)))))

  whole : length held ≡ length word → length (chars held) ≡ length (word_of kind)
  whole n = ap length (sym bytes) ∙ n ∙ ap length w

  pub word_goes_further : length held ≡ length word → ends_tag_name c ≡ false → (table : References) (mode : Mode) →
      IsTextBefore table mode kind (chars held) kind c
  word_goes_further n e =
      λ table mode.
      before table mode kind (λ rest a. stays kind (chars held ++ c ∷ rest) in_escaped a
      (whole_word (word_of kind) (chars held) c rest false is_front (whole n) e))

  pub word_ends : length held ≡ length word → ends_tag_name c ≡ true → (table : References) (mode : Mode) →
      IsTextBefore table mode kind (chars held) (other_part kind) c
  word_ends n e =
      λ table mode. before table mode (other_part kind)
      (λ rest a. changes kind (chars held ++ c ∷ rest) in_escaped a
      (whole_word (word_of kind) (chars held) c rest true is_front (whole n) e))
