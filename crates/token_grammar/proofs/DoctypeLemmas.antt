-- What a doctype is made of, step by step.
use Rattle.std.proofs.Common.{◌≡◌, [], ◌∷◌, ◌++◌, ◌∙◌, Bool, IsUtf8, List, None, Some, ap, arith, codes, cond, drop}
use Rattle.std.proofs.Common.{encode_utf8, encode_utf8_all, eqb, false, length, refl, sym, true, ℕ}
use Rattle.std.specs.Str.{chars}
use Rattle.std.proofs.lemmas.Bool.{eq-eqb}
use Rattle.std.proofs.lemmas.Bool.Decides.{nat_tests}
use Rattle.std.proofs.lemmas.List.{nil_from_length}
use Rattle.std.proofs.lemmas.Option.{same_Some}
use Rattle.std.proofs.lemmas.Str.{chars-nil, chars_past_char, encodes-chars}
use Rattle.std.specs.Char.{to_ascii_lowercase}
use Rattle.html_lexemes.specs.declared.token.Doctype.{Doctype}
use Rattle.token_grammar.specs.Characters.{name_of, shown_text}
use Rattle.token_grammar.specs.Classes.{is_of}
use Rattle.token_grammar.specs.Doctypes.{DoctypeEnd, after_identifier, after_keyword, after_public, after_spaces}
use Rattle.token_grammar.specs.Doctypes.{after_system, closed_public, doctype_at, ends_here, identifier, is_quote}
use Rattle.token_grammar.specs.Doctypes.{named_doctype, public_at, skipped, system_at, system_or, with_public}
use Rattle.token_grammar.specs.Doctypes.{with_quirks}
use Rattle.token_grammar.specs.Slices.{after, after_word, begins, begins_word, first_passes, front_while, rest_while}
use Rattle.token_grammar.specs.Tags.{without_spaces}
use Rattle.token_grammar.specs.declared.slices.CharacterClass.TheVariants.{Identifier, Unquoted}

-- a word, by its first letter and that of a text
after_word-past : (w c : ℕ) (ws cs : List ℕ) → to_ascii_lowercase c ≡ w → after_word (w ∷ ws) (c ∷ cs)
    ≡ after_word ws cs
after_word-past w c ws cs e = rw (eq-eqb (to_ascii_lowercase c) w e) refl

eqb_apart : (a b : ℕ) → (a ≡ b → ⊥) → eqb a b ≡ false
eqb_apart a b h = grind (arith, nat_tests)

after_word-apart : (w c : ℕ) (ws cs : List ℕ) → (to_ascii_lowercase c ≡ w → ⊥) → None ≡ after_word (w ∷ ws) (c ∷ cs)
after_word-apart w c ws cs h = rw (eqb_apart (to_ascii_lowercase c) w h) refl

-- what is left of a word, and of a text
module _ (left further text : List ℕ) (w : ℕ) (u : IsUtf8 left) (e : left ≡ encode_utf8 w ++ further) where
  pub word_past : (rest : List ℕ) (c : ℕ) → chars text ≡ c ∷ chars rest → to_ascii_lowercase c ≡ w →
      after_word (chars left) (chars text) ≡ after_word (chars further) (chars rest)
  word_past rest c f same =
      ap (λ l. after_word l (chars text)) (chars_past_char left further w u e) ∙ ap (after_word (w ∷ chars further)) f ∙
      after_word-past w c (chars further) (chars rest) same

  pub word_apart : (rest : List ℕ) (c : ℕ) → chars text ≡ c ∷ chars rest → (to_ascii_lowercase c ≡ w → ⊥) →
      None ≡ after_word (chars left) (chars text)
  word_apart rest c f apart =
      after_word-apart w c (chars further) (chars rest) apart ∙
      sym (ap (λ l. after_word l (chars text)) (chars_past_char left further w u e) ∙
      ap (after_word (w ∷ chars further)) f)

  pub word_short : chars text ≡ [] → None ≡ after_word (chars left) (chars text)
  word_short f =
      sym (ap (λ l. after_word l (chars text)) (chars_past_char left further w u e) ∙
      ap (after_word (w ∷ chars further)) f)

pub no_chars : (text : List ℕ) → length text ≡ 0 → chars text ≡ []
no_chars text e = ap chars (nil_from_length text e) ∙ chars-nil

pub word_all : (left cs : List ℕ) → length left ≡ 0 → Some cs ≡ after_word (chars left) cs
word_all left cs e = sym (ap (λ l. after_word l cs) (no_chars left e))

-- a choice on whether a mark stands there
some_by : {D : Type 0} (b : Bool) (x w : List ℕ) (f : List ℕ → D) (e : D) → Some w ≡ cond b (Some x) None →
    f w ≡ cond b (f x) e
some_by true x w f e h = ap f (same_Some w x h)
some_by false x w f e h = absurd (cc)

none_by : {D : Type 0} (b : Bool) (x : List ℕ) (f e : D) → None ≡ cond b (Some x) None → e ≡ cond b f e
none_by true x f e h = absurd (cc)
none_by false x f e h = refl

pub ends_here-some : (d : Doctype) (cs rest : List ℕ) → Some rest ≡ after (codes ">") cs →
    (record { doctype = d; rest = rest }) ≡ ends_here d cs
ends_here-some d cs rest h = some_by (begins (codes ">") cs) (drop 1 cs)
    rest (λ r. let e : DoctypeEnd = record { doctype = d; rest = r } in e) _ h

pub ends_here-none : (d : Doctype) (cs : List ℕ) → None ≡ after (codes ">") cs →
    skipped (with_quirks d) cs ≡ ends_here d cs
ends_here-none d cs h = none_by (begins (codes ">") cs) (drop 1 cs) _ _ h

pub after_system-end : (d : Doctype) (text : List ℕ) → length text ≡ 0 → skipped (with_quirks d) (chars text)
    ≡ after_system d (chars text)
after_system-end d text e =
    ap (skipped (with_quirks d)) (no_chars text e) ∙ sym (ap (after_system d) (no_chars text e))

some_left : (d : Doctype) (cs : List ℕ) → (cs ≡ [] → ⊥) → skipped d cs ≡ after_system d cs
some_left d [] h = absurd (h refl)
some_left d (c ∷ cs) h = refl

pub after_system-more : (d : Doctype) (text : List ℕ) → IsUtf8 text → (length text ≡ 0 → ⊥) →
    skipped d (chars text) ≡ after_system d (chars text)
after_system-more d text u h =
    some_left d (chars text) (λ e. h (ap length (sym (encodes-chars text u) ∙ ap encode_utf8_all e)))

-- an identifier that its quote closes
pub closed_public-some : (q : ℕ) (d : Doctype) (cs rest : List ℕ) → Some rest ≡ after (q ∷ []) cs →
    system_or d (ends_here d) (without_spaces rest) ≡ closed_public q d cs
closed_public-some q d cs rest h =
    some_by (begins (q ∷ []) cs) (drop 1 cs) rest (λ r. system_or d (ends_here d) (without_spaces r)) _ h

-- a quote, or something else
pub system_or-quote : (d : Doctype) (otherwise : List ℕ → DoctypeEnd) (cs rest : List ℕ) (q : ℕ) → cs ≡ q ∷ rest →
    is_quote q ≡ true → system_at d q rest ≡ system_or d otherwise cs
system_or-quote d otherwise cs rest q e h =
    sym (ap (system_or d otherwise) e ∙ ap (λ b. cond b (system_at d q rest) (otherwise (q ∷ rest))) h)

pub system_or-other : (d : Doctype) (otherwise : List ℕ → DoctypeEnd) (cs : List ℕ) → first_passes is_quote cs ≡ false →
    otherwise cs ≡ system_or d otherwise cs
system_or-other d otherwise [] h = refl
system_or-other d otherwise (c ∷ cs) h = sym (ap (λ b. cond b (system_at d c cs) (otherwise (c ∷ cs))) h)

-- an identifier, what follows it, and what its quote closes
pub record IsIdentifier (q : ℕ) (cs id rest : List ℕ) : Type 0 where
  pub id_is : id ≡ identifier q cs
  pub rest_is : rest ≡ after_identifier q cs

pub IsIdentifier-read : (q : ℕ) (cs slice id rest : List ℕ) → slice ≡ front_while (is_of (Identifier q)) cs →
    rest ≡ rest_while (is_of (Identifier q)) cs → id ≡ shown_text slice → IsIdentifier q cs id rest
IsIdentifier-read q cs slice id rest e f g = record { id_is = g ∙ ap shown_text e; rest_is = f }

pub public_at-is : (d : Doctype) (q : ℕ) (cs id rest : List ℕ) → IsIdentifier q cs id rest →
    closed_public q (with_public d id) rest ≡ public_at d q cs
public_at-is d q cs id rest h =
    ap (λ i. closed_public q (with_public d i) rest) h.id_is ∙
    ap (closed_public q (with_public d (identifier q cs))) h.rest_is

-- the words after a name
pub after_keyword-public : (d : Doctype) (cs rest : List ℕ) → Some rest ≡ after_word (codes "public") cs →
    after_public d (without_spaces rest) ≡ after_keyword d cs
after_keyword-public d cs rest h =
    some_by (begins_word (codes "public") cs) (drop 6 cs) rest (λ r. after_public d (without_spaces r)) _ h

pub after_keyword-system : (d : Doctype) (cs rest : List ℕ) → None ≡ after_word (codes "public") cs →
    Some rest ≡ after_word (codes "system") cs → system_or d (skipped (with_quirks d)) (without_spaces rest)
    ≡ after_keyword d cs
after_keyword-system d cs rest none h =
    some_by (begins_word (codes "system") cs) (drop 6 cs) rest
    (λ r. system_or d (skipped (with_quirks d)) (without_spaces r)) (ends_here d cs) h
    ∙ none_by (begins_word (codes "public") cs) (drop 6 cs) (after_public d (without_spaces (drop 6 cs))) _ none

pub after_keyword-none : (d : Doctype) (cs : List ℕ) → None ≡ after_word (codes "public") cs →
    None ≡ after_word (codes "system") cs → ends_here d cs ≡ after_keyword d cs
after_keyword-none d cs none h =
    none_by (begins_word (codes "system") cs) (drop 6 cs)
    (system_or d (skipped (with_quirks d)) (without_spaces (drop 6 cs))) (ends_here d cs) h
    ∙ none_by (begins_word (codes "public") cs) (drop 6 cs) (after_public d (without_spaces (drop 6 cs))) _ none

pub public_codes : chars (codes "public") ≡ codes "public"
unfolding chars
public_codes = refl

pub system_codes : chars (codes "system") ≡ codes "system"
unfolding chars
system_codes = refl

-- a name, or none
by_front : (b : Bool) (c : ℕ) (front rest cs : List ℕ) → length (cond b (c ∷ front) []) ≡ 0 →
    cond b rest (c ∷ cs) ≡ c ∷ cs
by_front true c front rest cs h = absurd (omega arith)
by_front false c front rest cs h = refl

all_left : (p : ℕ → Bool) (cs : List ℕ) → length (front_while p cs) ≡ 0 → rest_while p cs ≡ cs
all_left p [] h = refl
all_left p (c ∷ cs) h = by_front (p c) c (front_while p cs) (rest_while p cs) cs h

pub no_bytes : (text : List ℕ) → IsUtf8 text → length (chars text) ≡ 0 → length text ≡ 0
no_bytes text u e = ap length (sym (encodes-chars text u) ∙ ap encode_utf8_all (nil_from_length (chars text) e))

abbrev without_name : List ℕ → DoctypeEnd
without_name cs = skipped (with_quirks (named_doctype None)) cs

abbrev with_name : List ℕ → List ℕ → DoctypeEnd
with_name name rest = after_keyword (named_doctype (Some name)) (without_spaces rest)

module _ (text slice cs rest : List ℕ) (e : cs ≡ without_spaces text) (f : slice ≡ front_while (is_of Unquoted) cs)
    (g : rest ≡ rest_while (is_of Unquoted) cs) where
  pub doctype_at-none : length slice ≡ 0 → without_name rest ≡ doctype_at text
  doctype_at-none h =
      let none : length (front_while (is_of Unquoted) cs) ≡ 0 = sym (ap length f) ∙ h in
      let named = with_name (name_of (front_while (is_of Unquoted) cs)) (rest_while (is_of Unquoted) cs) in
      ap without_name (g ∙ all_left (is_of Unquoted) cs none)
      ∙ sym (ap (λ b. cond b (without_name cs) named) (eq-eqb (length (front_while (is_of Unquoted) cs)) 0 none))
      ∙ ap after_spaces e

  pub doctype_at-named : (name : List ℕ) → (length slice ≡ 0 → ⊥) → name ≡ name_of slice →
      with_name name rest ≡ doctype_at text
  doctype_at-named name h n =
      let some : length (front_while (is_of Unquoted) cs) ≡ 0 → ⊥ = λ none. h (ap length f ∙ none) in
      let named = with_name (name_of (front_while (is_of Unquoted) cs)) (rest_while (is_of Unquoted) cs) in
      ap (λ m. with_name m rest) (n ∙ ap name_of f) ∙ ap (with_name (name_of (front_while (is_of Unquoted) cs))) g
      ∙ sym (ap (λ b. cond b (without_name cs) named) (eqb_apart (length (front_while (is_of Unquoted) cs)) 0 some))
      ∙ ap after_spaces e
