-- What a further character does to the name of a character reference.
use Rattle.std.proofs.Common.{◌≡◌, ◌≢◌, ◌&&◌, ◌||◌, [], ◌∷◌, ◌++◌, ◌∙◌, Bool, IsTrue, IsUtf8, List, None, Option, Some}
use Rattle.std.proofs.Common.{ap, append-nil, append_assoc, arith, cond, encode_utf8_all, eqb, false, is_some, length}
use Rattle.std.proofs.Common.{length-append, option_map, refl, subst, sym, true, ℕ}
use Rattle.std.specs.Prelude.{IfSome}
use Rattle.std.proofs.lemmas.Bool.{and_parts, eqb-true, ne_eqb, or_left, or_right}
use Rattle.std.proofs.lemmas.List.{nil_from_length}
use Rattle.std.specs.List.{list_all}
use Rattle.std.specs.Char.{encode_utf8}
use Rattle.std.specs.Str.{bytes_eq, chars}
use Rattle.std.proofs.lemmas.Slice.Eq.{bytes_eq-Decides}
use Rattle.std.proofs.lemmas.Str.{encodes-chars}
use Rattle.std.specs.FinMap as finite
use Rattle.lex_base.specs.Lookup.{HasNameBeginning, HasLongerName}
use Rattle.lex_base.specs.References.{References, is_name, without_semicolon, is_alphanumeric as is_name_letter}
use Rattle.token_grammar.specs.Characters.{is_alphanumeric, is_between}
use Rattle.token_grammar.specs.References.{Found, named, reference}
use Rattle.token_grammar.specs.Slices.{begins}
use Rattle.token_states.specs.Goings.{IsNamed}
use Rattle.token_states.specs.ReferenceSound.{is_reference_held}
use Rattle.token_states.specs.ReferenceTurns.{ReferenceTurns, goes}
use Rattle.token_states.specs.declared.place.LexemeState.TheVariants.{CharacterReference}
use Rattle.token_states.specs.declared.place.ReferencePlace.TheVariants.{Named, Numeric}
use Rattle.token_states.specs.declared.turn.Turn.TheVariants.{Ends, EndsBefore}
use Rattle.token_states.proofs.ReferenceLexemes.{IsSettled, NoneOn, all_pass, both_true, class_plain, is_plain}
use Rattle.token_states.proofs.ReferenceLexemes.{named_left, named_on, other_code, with_rest}
use Rattle.token_states.proofs.ReferencePlaces.{ends_before, ends_with, goes_on}

-- ---- the characters of names

-- a letter or digit, or a semicolon
abbrev pub is_of_name : ℕ → Bool
is_of_name c = is_alphanumeric c || eqb c 59

either_way : (a b c : Bool) → (a || b || c) ≡ (a || (b || c))
either_way true b c = refl
either_way false b c = refl

same_letters : (c : ℕ) → is_name_letter c ≡ is_alphanumeric c
same_letters c = either_way (is_between 48 57 c) (is_between 65 90 c) (is_between 97 122 c)

name_letters : (cs : List ℕ) → list_all is_name_letter (without_semicolon cs) ≡ true → list_all is_of_name cs ≡ true
name_letters [] h = refl
name_letters (c ∷ cs) h = by (eqb (length cs) 0 && eqb c 59) refl h (name_letters cs)
  where
    by : (b : Bool) → (eqb (length cs) 0 && eqb c 59) ≡ b →
        list_all is_name_letter (cond b [] (c ∷ without_semicolon cs)) ≡ true →
        (list_all is_name_letter (without_semicolon cs) ≡ true → list_all is_of_name cs ≡ true)
        → list_all is_of_name (c ∷ cs) ≡ true
    by true e k _ =
        let parts = and_parts (eqb (length cs) 0) (eqb c 59) e in
        let last : cs ≡ [] = nil_from_length cs (eqb-true (length cs) 0 parts.0) in
        both_true (is_of_name c) _ (or_right (is_alphanumeric c) (eqb c 59) parts.1) (ap (list_all is_of_name) last)
    by false e k later =
        let parts = and_parts (is_name_letter c) (list_all is_name_letter (without_semicolon cs)) k in
        both_true (is_of_name c) _ (or_left (is_alphanumeric c) (eqb c 59) (sym (same_letters c) ∙ parts.0))
        (later parts.1)

pub letters_of : (cs : List ℕ) → IsTrue (is_name cs) → list_all is_of_name cs ≡ true
letters_of cs h = name_letters cs (and_parts _ (list_all is_name_letter (without_semicolon cs)) h).1

-- before its last character a name has letters and digits alone
begun_letters : (text : List ℕ) (d : ℕ) (more : List ℕ) → list_all is_name_letter (without_semicolon (text ++ d ∷ more))
    ≡ true → list_all is_alphanumeric text ≡ true
begun_letters [] d more h = refl
begun_letters (t ∷ text) d more h =
    let more_left : eqb (length (text ++ d ∷ more)) 0 ≡ false =
    ne_eqb (length (text ++ d ∷ more)) 0 (λ e. omega (arith, length-append text (d ∷ more))) in
    let kept : list_all is_name_letter (cond (false && eqb t 59) [] (t ∷ without_semicolon (text ++ d ∷ more))) ≡ true
    = subst (λ b. list_all is_name_letter (cond (b && eqb t 59) [] (t ∷ without_semicolon (text ++ d ∷ more)))
    ≡ true) more_left h in
    let parts = and_parts (is_name_letter t) (list_all is_name_letter (without_semicolon (text ++ d ∷ more))) kept in
    both_true (is_alphanumeric t) _ (sym (same_letters t) ∙ parts.0) (begun_letters text d more parts.1)

begun_of : (text : List ℕ) (d : ℕ) (more : List ℕ) → IsTrue (is_name (text ++ d ∷ more)) →
    list_all is_alphanumeric text ≡ true
begun_of text d more h =
    begun_letters text d more (and_parts _ (list_all is_name_letter (without_semicolon (text ++ d ∷ more))) h).1

letter_plain : (c : ℕ) → is_of_name c ≡ true → is_plain c ≡ true
letter_plain c h = class_plain is_of_name refl refl refl refl c h

alphanumeric_plain : (c : ℕ) → is_alphanumeric c ≡ true → is_plain c ≡ true
alphanumeric_plain c h = class_plain is_alphanumeric refl refl refl refl c h

chars-sign : chars (35 ∷ []) ≡ 35 ∷ []
unfolding chars
chars-sign = refl

encode-sign : encode_utf8_all (35 ∷ []) ≡ 35 ∷ []
unfolding encode_utf8
encode-sign = refl

pub sign_read : (text : List ℕ) (b : Bool) → b ≡ bytes_eq text (35 ∷ []) → b ≡ true → chars text ≡ 35 ∷ []
sign_read text b e h = ap chars ((bytes_eq-Decides text (35 ∷ [])).0 (sym e ∙ h)) ∙ chars-sign

pub no_sign_read : (text : List ℕ) (b : Bool) → IsUtf8 text → b ≡ bytes_eq text (35 ∷ []) → b ≡ false →
    chars text ≢ 35 ∷ []
no_sign_read text b u e h is =
    let same : text ≡ 35 ∷ [] = sym (encodes-chars text u) ∙ ap encode_utf8_all is ∙ encode-sign in
    let wrong : false ≡ true = sym h ∙ e ∙ (bytes_eq-Decides text (35 ∷ [])).1 same in
    cc

pub denied : (b : Bool) {P : Type 0} → (IsTrue b → P) × (P → IsTrue b) → b ≡ false → P → ⊥
denied b h e p = let wrong : true ≡ false = sym (h.1 p) ∙ e in cc

-- ---- references by name

-- a text that doesn't begin with `#`
pub no_sign : (p : ℕ → Bool) → p 35 ≡ false → (text rest : List ℕ) → list_all p text ≡ true → text ≢ [] →
    begins (35 ∷ []) (text ++ rest) ≡ false
no_sign p none [] rest h some = absurd (some refl)
no_sign p none (c ∷ text) rest h some =
    ap (λ b. b && true) (other_code p 35 c none (and_parts (p c) (list_all p text) h).0)

pub by_name : (table : References) (cs : List ℕ) → begins (35 ∷ []) cs ≡ false → reference table cs ≡ named table cs
by_name table cs e = rw e refl

missing : {A : Type 0} (o : Option A) → (IsTrue (is_some o) → ⊥) → o ≡ None
missing None h = refl
missing (Some a) h = absurd (h refl)

pub there : {A : Type 0} (o : Option A) → IsTrue (is_some o) → (a : A) × (o ≡ Some a)
there None h = cc
there (Some a) h = (a, refl)

abbrev pub AreNames : References → Type 0
AreNames table = (name value : List ℕ) → finite.get table name ≡ Some value → IsTrue (is_name name)
    × (IsTrue (Rattle.lex_base.specs.References.is_value value))

settled_named : (table : References) (held follow : List ℕ) →
    ((rest : List ℕ) → begins (35 ∷ []) (held ++ (follow ++ rest)) ≡ false) → begins (35 ∷ []) held ≡ false
    → ((rest : List ℕ) → NoneOn table held (follow ++ rest)) → list_all is_plain held ≡ true →
    IsSettled table held follow
settled_named table held follow sign alone none plain = record {
  same = λ rest. by_name table (held ++ (follow ++ rest)) (sign rest) ∙ named_on table []
      held (follow ++ rest) (none rest) ∙ ap (option_map (with_rest (follow ++ rest))) (sym (by_name table held alone));
  plain = plain;
  left = subst (λ o. IfSome o (λ (found : Found). list_all is_plain found.rest ≡ true)) (sym (by_name table held alone))
      (named_left table [] held plain);
}

named_longer : (table : References) (text : List ℕ) → HasLongerName table text → IsNamed table Named text
named_longer table [] longer = tt
named_longer table (c ∷ cs) longer = λ none. none longer

module _ (table : References) (text held : List ℕ) (c : ℕ) (is : text ≡ held ++ c ∷ []) where
  pub sign_turns : text ≡ 35 ∷ [] → ReferenceTurns table Named held c (goes Numeric)
  sign_turns e =
      goes_on table Named Numeric held c (subst (λ l. IsTrue (is_reference_held Numeric l)) (sym e ∙ is) refl) tt

  pub longer_turns : AreNames table → HasLongerName table text → ReferenceTurns table Named held c (goes Named)
  longer_turns law longer =
      let stands = there _ longer.2 in
      goes_on table Named Named held c (subst (λ l. IsTrue (is_reference_held Named l)) is
      (begun_of text longer.0 longer.1 (law _ _ stands.1).0))
      (subst (IsNamed table Named) is (named_longer table text longer))

  beginning_of : HasNameBeginning table text → (HasLongerName table text → ⊥) → IsTrue (finite.contains_key table text)
  beginning_of begun none = by begun.0 begun.1
    where
      by : (more : List ℕ) → IsTrue (finite.contains_key table (text ++ more)) → IsTrue (finite.contains_key table text)
      by [] h = subst (λ l. IsTrue (finite.contains_key table l)) (append-nil text) h
      by (d ∷ more) h = absurd (none (d, more, h))

  not_empty : held ++ c ∷ [] ≢ []
  not_empty e = omega (arith, length-append held (c ∷ []), ap length e)

  pub name_turns : AreNames table → HasNameBeginning table text → (HasLongerName table text → ⊥) →
      ReferenceTurns table Named held c (Ends (CharacterReference Named))
  name_turns law begun none =
      let now = held ++ c ∷ [] in
      let stands = there _ (beginning_of begun none) in
      let letters : list_all is_of_name now ≡ true =
      subst (λ l. list_all is_of_name l ≡ true) is (letters_of text (law _ _ stands.1).0) in
      ends_with table Named held c (settled_named table now []
      (λ rest. no_sign is_of_name refl now rest letters not_empty)
      (subst (λ l. begins (35 ∷ []) l ≡ false) (append-nil now) (no_sign is_of_name refl now [] letters not_empty))
      (λ rest d more later _.
      missing _ (λ h. none (d, more, subst (λ l. IsTrue (finite.contains_key table (l ++ d ∷ more))) (sym is) h)))
      (all_pass is_of_name is_plain letter_plain now letters))

  no_sign_held : list_all is_alphanumeric held ≡ true → text ≢ 35 ∷ [] → (rest : List ℕ) →
      begins (35 ∷ []) (held ++ c ∷ rest) ≡ false
  no_sign_held letters other rest = by held letters is
    where
      by : (front : List ℕ) → list_all is_alphanumeric front ≡ true → text ≡ front ++ c ∷ [] →
          begins (35 ∷ []) (front ++ c ∷ rest) ≡ false
      by [] h e = ap (λ b. b && true) (ne_eqb c 35 (λ sign. other (e ∙ ap (λ d. d ∷ []) sign)))
      by (d ∷ front) h e = no_sign is_alphanumeric refl (d ∷ front) (c ∷ rest) h (λ wrong. cc)

  no_sign_alone : (front : List ℕ) → list_all is_alphanumeric front ≡ true → begins (35 ∷ []) front ≡ false
  no_sign_alone [] h = refl
  no_sign_alone (d ∷ front) h =
      ap (λ b. b && true)
      (other_code is_alphanumeric 35 d refl (and_parts (is_alphanumeric d) (list_all is_alphanumeric front) h).0)

  pub other_turns : IsTrue (is_reference_held Named held) → text ≢ 35 ∷ [] → (HasNameBeginning table text → ⊥) →
      ReferenceTurns table Named held c EndsBefore
  other_turns letters other none = ends_before table Named held c (settled_named table held (c ∷ [])
      (λ rest. no_sign_held letters other rest) (no_sign_alone held letters)
      (λ rest d more later e. missing _ (λ h. none (
        more,
        let same : d ≡ c = cc in
            subst (λ l. IsTrue (finite.contains_key table l))
            (ap (λ k. held ++ k ∷ more) same ∙ sym (append_assoc held (c ∷ []) more) ∙ ap (λ l. l ++ more) (sym is))
            h,
      )))
      (all_pass is_alphanumeric is_plain alphanumeric_plain held letters))
