-- What stands after `<!`, read one character more.
use Rattle.std.proofs.Common.{◌≡◌, ◌&&◌, ◌||◌, ◌==◌, ◌⊎◌, [], ◌∷◌, ◌++◌, ◌∙◌, Bool, IsTrue, IsUtf8, List, None, Some}
use Rattle.std.proofs.Common.{ap, ap₂, codes, drop, encode_utf8, false, length, not, refl, subst, sym, true, ℕ}
use Rattle.std.proofs.Math.Logic.{◌⊎◌.inl, ◌⊎◌.inr}
use Rattle.std.proofs.lemmas.Bool.{and_parts, both_ways, eq-eqb, eqb-true, ne_eqb}
use Rattle.std.proofs.lemmas.Str.{chars_past_char}
use Rattle.std.specs.Char.{to_ascii_lowercase}
use Rattle.std.specs.Prelude.{if◌then◌else◌}
use Rattle.std.specs.Str.{chars}
use Rattle.lex_base.specs.References.{References}
use Rattle.token_grammar.proofs.DoctypeLemmas.{no_chars}
use Rattle.token_grammar.proofs.LexemeLemmas.{chosen_false, chosen_true, declared_comment, declared_doctype}
use Rattle.token_grammar.proofs.LexemeLemmas.{declared_other, declared_section, section_found}
use Rattle.token_grammar.specs.Lexemes.{cdata_lexeme, declaration}
use Rattle.token_grammar.specs.Slices.{after, after_word, begins, begins_word, cut, cut_or_all}
use Rattle.token_grammar.specs.declared.modes.Mode.{Mode}
use Rattle.token_states.specs.MarkupSound.{HasNoGreater, is_begun, is_begun_declaration, is_begun_word}
use Rattle.token_states.specs.Openings.{IsBogus, IsOpened}
use Rattle.token_states.specs.Places.{place_lexeme}
use Rattle.token_states.specs.Turns.{IsTaken}
use Rattle.token_states.specs.Spellings.{folded, spelled}
use Rattle.token_states.specs.declared.declarations.Spelled.{Spelled}
use Rattle.token_states.specs.declared.declarations.Spelled.TheVariants.{Whole, Front, Apart}
use Rattle.token_states.specs.declared.place.LexemeState.{LexemeState}
use Rattle.token_states.specs.declared.place.LexemeState.TheVariants.{BogusComment, CdataSection, Comment, Doctype}
use Rattle.token_states.specs.declared.place.LexemeState.TheVariants.{MarkupDeclarationOpen}
use Rattle.token_states.proofs.MarkupHeld.{and_false, first_of, held_more}

-- ---- marks and words alike

abbrev starts : (ℕ → ℕ) → List ℕ → List ℕ → Bool
starts f [] cs = true
starts f (m ∷ ms) [] = false
starts f (m ∷ ms) (c ∷ cs) = f c == m && starts f ms cs

abbrev begun : (ℕ → ℕ) → List ℕ → List ℕ → Bool
begun f [] cs = false
begun f (m ∷ ms) [] = true
begun f (m ∷ ms) (c ∷ cs) = f c == m && begun f ms cs

starts_mark : (ms cs : List ℕ) → starts (folded false) ms cs ≡ begins ms cs
starts_mark ms cs = refl

starts_word : (ms cs : List ℕ) → starts (folded true) ms cs ≡ begins_word ms cs
starts_word ms cs = refl

begun_mark : (ms cs : List ℕ) → begun (folded false) ms cs ≡ is_begun ms cs
begun_mark ms cs = refl

begun_word : (ms cs : List ℕ) → begun (folded true) ms cs ≡ is_begun_word ms cs
begun_word ms cs = refl

-- ---- a front, and all of a mark

front_by : (b : Bool) (s : Spelled) (t : Bool) → (if b then s
    else Apart) ≡ Front → (s ≡ Front → t ≡ true) → (b && t) ≡ true
front_by true s t e h = h e
front_by false s t e h = absurd cc

is_front : (f : ℕ → ℕ) (ms cs : List ℕ) → spelled f ms cs ≡ Front → begun f ms cs ≡ true
is_front f [] [] e = absurd cc
is_front f [] (c ∷ cs) e = absurd cc
is_front f (m ∷ ms) [] e = refl
is_front f (m ∷ ms) (c ∷ cs) e = front_by (f c == m) (spelled f ms cs) (begun f ms cs) e (is_front f ms cs)

whole_by : (b : Bool) (s : Spelled) (t : Bool) (x y : List ℕ) → (if b then s
    else Apart) ≡ Whole → (s ≡ Whole → (t ≡ true) × (x ≡ y)) → ((b && t) ≡ true) × (x ≡ y)
whole_by true s t x y e h = h e
whole_by false s t x y e h = absurd cc

is_whole : (f : ℕ → ℕ) (ms cs rest : List ℕ) → spelled f ms cs ≡ Whole → (starts f ms (cs ++ rest) ≡ true)
    × (drop (length ms) (cs ++ rest) ≡ rest)
is_whole f [] [] rest e = (refl, refl)
is_whole f [] (c ∷ cs) rest e = absurd cc
is_whole f (m ∷ ms) [] rest e = absurd cc
is_whole f (m ∷ ms) (c ∷ cs) rest e =
    whole_by (f c == m) (spelled f ms cs) (starts f ms (cs ++ rest)) (drop (length ms) (cs ++ rest)) rest e
    (is_whole f ms cs rest)

-- ---- a text that goes apart from a mark with its last character

apart_by : (b : Bool) (s : Spelled) (t u : Bool) → (b && t) ≡ false → (if b then s
    else Apart) ≡ Apart → (t ≡ false → s ≡ Apart → u ≡ false) → (b && u) ≡ false
apart_by true s t u n e h = h n e
apart_by false s t u n e h = refl

not_apart : (f : ℕ → ℕ) (ms : List ℕ) → spelled f ms [] ≡ Apart → ⊥
not_apart f [] e = cc
not_apart f (m ∷ ms) e = cc

apart_more : (f : ℕ → ℕ) (ms hs rest : List ℕ) (c : ℕ) → starts f ms hs ≡ false → spelled f ms (hs ++ c ∷ []) ≡ Apart →
    starts f ms ((hs ++ c ∷ []) ++ rest) ≡ false
apart_more f [] hs rest c n e = absurd cc
apart_more f (m ∷ ms) [] rest c n e =
    apart_by (f c == m) (spelled f ms []) false (starts f ms rest) (and_false (f c == m)) e
    (λ t s. absurd (not_apart f ms s))
apart_more f (m ∷ ms) (h ∷ hs) rest c n e =
    apart_by (f h == m) (spelled f ms (hs ++ c ∷ [])) (starts f ms hs) (starts f ms ((hs ++ c ∷ []) ++ rest)) n e
    (λ t s. apart_more f ms hs rest c t s)

-- ---- marks that differ in their first character

begun_by : (b t u : Bool) → (b && t) ≡ true → (t ≡ true → u ≡ false) → (b && u) ≡ false
begun_by true t u e h = h e
begun_by false t u e h = refl

begun_same : (f : ℕ → ℕ) (ms hs : List ℕ) → begun f ms hs ≡ true → starts f ms hs ≡ false
begun_same f [] hs e = absurd cc
begun_same f (m ∷ ms) [] e = refl
begun_same f (m ∷ ms) (h ∷ hs) e = begun_by (f h == m) (begun f ms hs) (starts f ms hs) e (begun_same f ms hs)

abbrev Differ : (ℕ → ℕ) → ℕ → (ℕ → ℕ) → ℕ → Type 0
Differ f m g k = (c : ℕ) → f c ≡ m → (g c == k) ≡ false

begun_other : (f g : ℕ → ℕ) (m k : ℕ) (ms ks hs : List ℕ) → Differ f m g k → begun f (m ∷ ms) hs ≡ true →
    starts g (k ∷ ks) hs ≡ false
begun_other f g m k ms ks [] d e = refl
begun_other f g m k ms ks (h ∷ hs) d e =
    ap (λ b. b && starts g ks hs) (d h (eqb-true (f h) m (and_parts (f h == m) (begun f ms hs) e).0))

starts_other : (f g : ℕ → ℕ) (m k : ℕ) (ms ks hs : List ℕ) → Differ f m g k → starts f (m ∷ ms) hs ≡ true →
    starts g (k ∷ ks) hs ≡ false
starts_other f g m k ms ks [] d e = refl
starts_other f g m k ms ks (h ∷ hs) d e =
    ap (λ b. b && starts g ks hs) (d h (eqb-true (f h) m (and_parts (f h == m) (starts f ms hs) e).0))

dash_word : Differ (folded false) 45 (folded true) 100
dash_word c e = ap (λ d. folded true d == 100) e

dash_section : Differ (folded false) 45 (folded false) 91
dash_section c e = ap (λ d. d == 91) e

section_word : Differ (folded false) 91 (folded true) 100
section_word c e = ap (λ d. folded true d == 100) e

section_dash : Differ (folded false) 91 (folded false) 45
section_dash c e = ap (λ d. d == 45) e

word_not : (k : ℕ) → (to_ascii_lowercase k == 100) ≡ false → Differ (folded true) 100 (folded false) k
word_not k n c e =
    ne_eqb c k (λ s. both_ways (to_ascii_lowercase c == 100) (ap (λ d. to_ascii_lowercase d == 100) s ∙ n)
    (ap (λ d. d == 100) e))

-- what is a beginning does not begin with any of the marks
record IsBefore (hs : List ℕ) : Type 0 where
  no_dashes : begins (codes "--") hs ≡ false
  no_word : begins_word (codes "doctype") hs ≡ false
  no_section : begins (codes "[CDATA[") hs ≡ false

one_of : (a b d : Bool) → (a || b || d) ≡ true → (a ≡ true) ⊎ ((b ≡ true) ⊎ (d ≡ true))
one_of true b d e = inl refl
one_of false true d e = inr (inl refl)
one_of false false d e = inr (inr e)

abbrev dashes : List ℕ
dashes = codes "--"

abbrev word : List ℕ
word = codes "doctype"

abbrev section : List ℕ
section = codes "[CDATA["

before_by : (hs : List ℕ) → (is_begun dashes hs ≡ true)
    ⊎ ((is_begun_word word hs ≡ true) ⊎ (is_begun section hs ≡ true)) → IsBefore hs
before_by hs (inl e) = record {
  no_dashes = begun_same (folded false) dashes hs e;
  no_word = begun_other (folded false) (folded true) 45 100 (codes "-") (codes "octype") hs dash_word e;
  no_section = begun_other (folded false) (folded false) 45 91 (codes "-") (codes "CDATA[") hs dash_section e;
}
before_by hs (inr (inl e)) = record {
  no_dashes = begun_other (folded true) (folded false) 100 45 (codes "octype") (codes "-") hs (word_not 45 refl) e;
  no_word = begun_same (folded true) word hs e;
  no_section =
      begun_other (folded true) (folded false) 100 91 (codes "octype") (codes "CDATA[") hs (word_not 91 refl) e;
}
before_by hs (inr (inr e)) = record {
  no_dashes = begun_other (folded false) (folded false) 91 45 (codes "CDATA[") (codes "-") hs section_dash e;
  no_word = begun_other (folded false) (folded true) 91 100 (codes "CDATA[") (codes "octype") hs section_word e;
  no_section = begun_same (folded false) section hs e;
}

is_before : (hs : List ℕ) → IsTrue (is_begun_declaration hs) → IsBefore hs
is_before hs e = before_by hs (one_of (is_begun dashes hs) (is_begun_word word hs) (is_begun section hs) e)

-- ---- what is opened

some_mark : (b : Bool) (x rest : List ℕ) → b ≡ true → x ≡ rest → Some rest ≡ (if b then Some x else None)
some_mark b x rest e d = ap Some (sym d) ∙ chosen_true b (Some x) None e

none_mark : (b : Bool) (x : List ℕ) → b ≡ false → None ≡ (if b then Some x else None)
none_mark b x e = chosen_false b (Some x) None e

no_dashes_after : (cs : List ℕ) → begins dashes cs ≡ false → None ≡ after dashes cs
no_dashes_after cs e = none_mark (begins dashes cs) (drop 2 cs) e

no_word_after : (cs : List ℕ) → begins_word word cs ≡ false → None ≡ after_word word cs
no_word_after cs e = none_mark (begins_word word cs) (drop 7 cs) e

pub opens_comment : (foreign : Bool) (cs : List ℕ) → spelled (folded false) dashes cs ≡ Whole →
    IsOpened foreign cs Comment
opens_comment foreign cs e table mode rest =
    let w = is_whole (folded false) dashes cs rest e in
    declared_comment foreign mode (cs ++ rest) rest
    (some_mark (begins dashes (cs ++ rest)) (drop 2 (cs ++ rest)) rest w.0 w.1)

pub opens_doctype : (foreign : Bool) (cs : List ℕ) → spelled (folded true) word cs ≡ Whole → IsOpened foreign cs Doctype
opens_doctype foreign cs e table mode rest =
    let w = is_whole (folded true) word cs rest e in
    declared_doctype foreign mode (cs ++ rest) rest
    (no_dashes_after (cs ++ rest) (starts_other (folded true) (folded false) 100 45 (codes "octype") (codes "-")
    (cs ++ rest) (word_not 45 refl) w.0))
    (some_mark (begins_word word (cs ++ rest)) (drop 7 (cs ++ rest)) rest w.0 w.1)

section_at : (cs rest : List ℕ) (mode : Mode) → spelled (folded false) section cs ≡ Whole →
    cdata_lexeme mode (cut_or_all (cut (after (codes "]]>")) rest) rest) ≡ declaration true mode (cs ++ rest)
section_at cs rest mode e =
    let w = is_whole (folded false) section cs rest e in
    declared_section true mode (cs ++ rest) rest
    (no_dashes_after (cs ++ rest) (starts_other (folded false) (folded false) 91 45 (codes "CDATA[") (codes "-")
    (cs ++ rest) section_dash w.0))
    (no_word_after (cs ++ rest) (starts_other (folded false) (folded true) 91 100 (codes "CDATA[") (codes "octype")
    (cs ++ rest) section_word w.0))
    (some_mark (begins section (cs ++ rest)) (drop 7 (cs ++ rest)) rest w.0 w.1)

pub opens_section : (foreign : Bool) (cs : List ℕ) → foreign ≡ true → spelled (folded false) section cs ≡ Whole →
    IsOpened foreign cs CdataSection
opens_section false cs f e = absurd cc
opens_section true cs f e = λ table mode rest. section_at cs rest mode e

no_section_found : (foreign : Bool) (cs : List ℕ) → (foreign ≡ true → begins section cs ≡ false) →
    None ≡ section_found foreign cs
no_section_found false cs e = refl
no_section_found true cs e = none_mark (begins section cs) (drop 7 cs) (e refl)

pub is_bogus : (foreign : Bool) (cs : List ℕ) → spelled (folded false) dashes cs ≡ Apart →
    spelled (folded true) word cs ≡ Apart → (foreign ≡ true → spelled (folded false) section cs ≡ Apart) →
    IsBogus foreign cs
is_bogus foreign cs a b d front c e sound mode rest =
    let held = is_before front sound in
    let back : (front ++ c ∷ []) ++ rest ≡ cs ++ rest = ap (λ l. l ++ rest) (sym e) in
    declared_other foreign mode (cs ++ rest)
    (no_dashes_after (cs ++ rest) (ap (begins dashes) (sym back) ∙
    apart_more (folded false) dashes front rest c held.no_dashes (ap (spelled (folded false) dashes) (sym e) ∙ a)))
    (no_word_after (cs ++ rest) (ap (begins_word word) (sym back) ∙
    apart_more (folded true) word front rest c held.no_word (ap (spelled (folded true) word) (sym e) ∙ b)))
    (no_section_found foreign (cs ++ rest) (λ f. ap (begins section) (sym back) ∙
    apart_more (folded false) section front rest c held.no_section
    (ap (spelled (folded false) section) (sym e) ∙ d f)))

-- ---- what is begun

or_first : (a b d : Bool) → a ≡ true → (a || b || d) ≡ true
or_first true b d e = refl
or_first false b d e = absurd cc

or_second : (a b d : Bool) → b ≡ true → (a || b || d) ≡ true
or_second true b d e = refl
or_second false true d e = refl
or_second false false d e = absurd cc

or_third : (a b d : Bool) → d ≡ true → (a || b || d) ≡ true
or_third true b d e = refl
or_third false true d e = refl
or_third false false d e = e

pub begins_comment : (cs : List ℕ) → spelled (folded false) dashes cs ≡ Front → IsTrue (is_begun_declaration cs)
begins_comment cs e =
    or_first (is_begun dashes cs) (is_begun_word word cs) (is_begun section cs) (is_front (folded false) dashes cs e)

pub begins_doctype : (cs : List ℕ) → spelled (folded true) word cs ≡ Front → IsTrue (is_begun_declaration cs)
begins_doctype cs e =
    or_second (is_begun dashes cs) (is_begun_word word cs) (is_begun section cs) (is_front (folded true) word cs e)

pub begins_section : (cs : List ℕ) → spelled (folded false) section cs ≡ Front → IsTrue (is_begun_declaration cs)
begins_section cs e =
    or_third (is_begun dashes cs) (is_begun_word word cs) (is_begun section cs) (is_front (folded false) section cs e)

-- ---- no `>` is in a beginning

keeps_none : (f : ℕ → ℕ) (ms hs : List ℕ) → f 62 ≡ 62 → HasNoGreater ms → begun f ms hs ≡ true → HasNoGreater hs
keeps_none f [] hs n m e = absurd cc
keeps_none f (m ∷ ms) [] n k e = refl
keeps_none f (m ∷ ms) (h ∷ hs) n k e =
    let parts = and_parts (f h == m) (begun f ms hs) e in
    let mark = first_of m ms k in
    let here : (h == 62) ≡ false =
    ne_eqb h 62 (λ s. both_ways (m == 62) mark.0 (eq-eqb m 62 (sym (eqb-true (f h) m parts.0) ∙ (ap f s ∙ n))))
    in
    ap₂ (λ a b. not a && b) here (keeps_none f ms hs n mark.1 parts.1)

none_in : (hs : List ℕ) → (is_begun dashes hs ≡ true)
    ⊎ ((is_begun_word word hs ≡ true) ⊎ (is_begun section hs ≡ true)) → HasNoGreater hs
none_in hs (inl e) = keeps_none (folded false) dashes hs refl refl e
none_in hs (inr (inl e)) = keeps_none (folded true) word hs refl refl e
none_in hs (inr (inr e)) = keeps_none (folded false) section hs refl refl e

pub no_greater_begun : (hs : List ℕ) → IsTrue (is_begun_declaration hs) → HasNoGreater hs
no_greater_begun hs e = none_in hs (one_of (is_begun dashes hs) (is_begun_word word hs) (is_begun section hs) e)

-- ---- a text that is compared with a mark, in bytes

module _ (f : ℕ → ℕ) (left further cs : List ℕ) (w : ℕ) (u : IsUtf8 left) (e : left ≡ encode_utf8 w ++ further) where
  at_character : spelled f (chars left) cs ≡ spelled f (w ∷ chars further) cs
  at_character = ap (λ l. spelled f l cs) (chars_past_char left further w u e)

  pub compared_short : cs ≡ [] → Front ≡ spelled f (chars left) cs
  compared_short s = sym (at_character ∙ ap (spelled f (w ∷ chars further)) s)

  pub compared_apart : (c : ℕ) (rest : List ℕ) → cs ≡ c ∷ rest → (f c ≡ w → ⊥) → Apart ≡ spelled f (chars left) cs
  compared_apart c rest s apart =
      sym (at_character ∙ (ap (spelled f (w ∷ chars further)) s ∙ ap (λ b. if b then spelled f (chars further) rest
      else Apart) (ne_eqb (f c) w apart)))

  pub compared_on : (c : ℕ) (rest : List ℕ) → cs ≡ c ∷ rest → f c ≡ w → spelled f (chars left) cs
      ≡ spelled f (chars further) rest
  compared_on c rest s same =
      at_character ∙ (ap (spelled f (w ∷ chars further)) s ∙ ap (λ b. if b then spelled f (chars further) rest
      else Apart) (eq-eqb (f c) w same))

pub compared_whole : (f : ℕ → ℕ) (left cs : List ℕ) → length left ≡ 0 → cs ≡ [] → Whole ≡ spelled f (chars left) cs
compared_whole f left cs e s = sym (ap₂ (spelled f) (no_chars left e) s)

pub compared_longer : (f : ℕ → ℕ) (left cs rest : List ℕ) (c : ℕ) → length left ≡ 0 → cs ≡ c ∷ rest →
    Apart ≡ spelled f (chars left) cs
compared_longer f left cs rest c e s = sym (ap₂ (spelled f) (no_chars left e) s)

pub at_mark : (f : ℕ → ℕ) (mark cs : List ℕ) (r s : Spelled) → chars mark ≡ mark → r ≡ spelled f (chars mark) cs →
    r ≡ s → spelled f mark cs ≡ s
at_mark f mark cs r s e h is = ap (λ m. spelled f m cs) (sym e) ∙ (sym h ∙ is)

-- ---- the turn

pub opened_taken : (table : References) (foreign : Bool) (mode : Mode) (hs now text cleared : List ℕ) (c : ℕ)
    (place : LexemeState) → now ≡ hs ++ c ∷ [] → text ≡ now → cleared ≡ [] → IsOpened foreign text place →
    IsTaken table foreign mode MarkupDeclarationOpen hs c place cleared
opened_taken table foreign mode hs now text cleared c place e same none opened rest =
    ap (λ l. place_lexeme table foreign mode place (l ++ rest)) none
    ∙ (opened table mode rest ∙ ap (declaration foreign mode)
    (ap (λ l. l ++ rest) same ∙ held_more hs now rest c e))

pub bogus_taken : (table : References) (foreign : Bool) (mode : Mode) (hs now text : List ℕ) (c : ℕ) →
    IsTrue (is_begun_declaration hs) → now ≡ hs ++ c ∷ [] → text ≡ now → IsBogus foreign text →
    IsTaken table foreign mode MarkupDeclarationOpen hs c BogusComment now
bogus_taken table foreign mode hs now text c sound e same bogus rest =
    let here : IsBogus foreign now = subst (IsBogus foreign) same bogus in
    here hs c e sound mode rest ∙ ap (declaration foreign mode) (held_more hs now rest c e)
