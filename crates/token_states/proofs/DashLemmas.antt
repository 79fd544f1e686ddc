-- The turn at one or two dashes of an escaped part.
use Rattle.std.proofs.Common.{◌≡◌, ◌≢◌, ◌⊎◌, ◌==◌, [], ◌∷◌, ◌++◌, ◌∙◌, Bool, IsUtf8, List, ap, arith, codes}
use Rattle.std.proofs.Common.{encode_utf8_all, false, inl, inr, length, refl, subst, sym, true, ℕ}
use Rattle.std.proofs.lemmas.Bool.{and_from, and_parts, and_left, eqb-true, ne_eqb}
use Rattle.std.proofs.lemmas.Str.{encodes-chars}
use Rattle.std.specs.Str.{chars}
use Rattle.lex_base.specs.References.{References}
use Rattle.html_lexemes.specs.declared.states.RawKind.{RawKind}
use Rattle.html_lexemes.specs.declared.states.RawKind.TheVariants.{Rcdata, Rawtext, ScriptData, ScriptDataEscaped}
use Rattle.html_lexemes.specs.declared.states.ScriptEscapeKind.{ScriptEscapeKind}
use Rattle.token_grammar.specs.Lexemes.{in_kind}
use Rattle.token_grammar.specs.Slices.{begins}
use Rattle.token_grammar.specs.declared.modes.Mode.{Mode}
use Rattle.token_grammar.proofs.LexemeLemmas.{closed}
use Rattle.token_states.specs.RawSound.{is_escaped, is_one_dash_or_two, is_raw_held}
use Rattle.token_states.specs.RawTurns.{IsShifted, IsText, IsTextBefore}
use Rattle.token_states.specs.declared.place.RawPlace.TheVariants.{Dashes}
use Rattle.token_states.proofs.RawTextLemmas.{IsOne, dash_one, one, plain_text}

pub record IsEscaped (kind : RawKind) : Type 0 where
  pub escape : ScriptEscapeKind
  pub is : kind ≡ ScriptDataEscaped escape

pub escaped : (kind : RawKind) → is_escaped kind ≡ true → IsEscaped kind
escaped Rcdata e = absurd cc
escaped Rawtext e = absurd cc
escaped ScriptData e = absurd cc
escaped (ScriptDataEscaped escape) e = record { escape = escape; is = refl }

pub dash_or_dashes : (held : List ℕ) → is_one_dash_or_two held ≡ true → (held ≡ 45 ∷ []) ⊎ (held ≡ 45 ∷ 45 ∷ [])
dash_or_dashes [] h = absurd cc
dash_or_dashes (d ∷ []) h = inl (ap (λ x. x ∷ []) (eqb-true d 45 h))
dash_or_dashes (d ∷ e ∷ []) h =
    let p = and_parts (d == 45) (e == 45) h in
    inr (ap (λ x. x ∷ e ∷ []) (eqb-true d 45 p.0) ∙ ap (λ x. 45 ∷ x ∷ []) (eqb-true e 45 p.1))
dash_or_dashes (d ∷ e ∷ f ∷ held) h = absurd cc

one_byte : (bs : List ℕ) → IsUtf8 bs → chars bs ≡ 45 ∷ [] → length bs ≡ 1
unfolding lib.Utf8.encode
one_byte bs u e = ap length (sym (encodes-chars bs u) ∙ ap encode_utf8_all e)

two_bytes : (bs : List ℕ) → IsUtf8 bs → chars bs ≡ 45 ∷ 45 ∷ [] → length bs ≡ 2
unfolding lib.Utf8.encode
two_bytes bs u e = ap length (sym (encodes-chars bs u) ∙ ap encode_utf8_all e)

pub one_dash : (bs : List ℕ) → IsUtf8 bs → is_one_dash_or_two (chars bs) ≡ true → length bs ≡ 1 → chars bs ≡ 45 ∷ []
one_dash bs u h n = elim (dash_or_dashes (chars bs) h) [
  | inl e ↦ e
  | inr e ↦ absurd (omega (arith, two_bytes bs u e))
]

pub two_dashes : (bs : List ℕ) → IsUtf8 bs → is_one_dash_or_two (chars bs) ≡ true → length bs ≢ 1 →
    chars bs ≡ 45 ∷ 45 ∷ []
two_dashes bs u h n = elim (dash_or_dashes (chars bs) h) [
  | inl e ↦ absurd (n (one_byte bs u e))
  | inr e ↦ e
]

-- in an escaped part, a dash that no `->` follows, and what is text after it
dash_then : (table : References) (mode : Mode) (escape : ScriptEscapeKind) (trailing : RawKind) (text rest : List ℕ) →
    begins (codes "->") (text ++ rest) ≡ false →
    IsText table (in_kind mode (ScriptDataEscaped escape)) text (in_kind mode trailing) rest →
    IsText table (in_kind mode (ScriptDataEscaped escape)) (45 ∷ text) (in_kind mode trailing) rest
dash_then table mode escape trailing text rest e h =
    (in_kind mode (ScriptDataEscaped escape), (λ foreign. dash_one table foreign mode escape (text ++ rest) e), h)

arrow_then : (table : References) (foreign : Bool) (mode : Mode) (escape : ScriptEscapeKind) (rest : List ℕ) →
    IsOne table foreign mode (ScriptDataEscaped escape) 45 ScriptData (45 ∷ 62 ∷ rest)
arrow_then table foreign mode escape rest =
    one table foreign mode (ScriptDataEscaped escape) ScriptData 45 (45 ∷ 62 ∷ rest) refl refl refl
    (sym (closed escape (45 ∷ 45 ∷ 62 ∷ rest) refl))

module _ (table : References) (mode : Mode) (kind : RawKind) (c : ℕ) (held : List ℕ) (h : is_escaped kind ≡ true) where
  abbrev escape : ScriptEscapeKind
  escape = (escaped kind h).escape

  at_kind : (P : RawKind → List ℕ → Type 0) (cs : List ℕ) → held ≡ cs → P (ScriptDataEscaped escape) cs → P kind held
  at_kind P cs e p = subst (λ l. P kind l) (sym e) (subst (λ k. P k cs) (sym (escaped kind h).is) p)

  pub one_before : held ≡ 45 ∷ [] → c ≢ 45 → IsTextBefore table mode kind held kind c
  one_before e n =
      at_kind (λ k l. IsTextBefore table mode k l k c) (45 ∷ []) e
      (λ rest. dash_then table mode escape (ScriptDataEscaped escape) [] (c ∷ rest)
      (and_left (c == 45) _ (ne_eqb c 45 n)) refl)

  pub two_before : held ≡ 45 ∷ 45 ∷ [] → c ≢ 45 → c ≢ 62 → IsTextBefore table mode kind held kind c
  two_before e n m = at_kind (λ k l. IsTextBefore table mode k l k c) (45 ∷ 45 ∷ []) e (λ rest.
      dash_then table mode escape (ScriptDataEscaped escape) (45 ∷ []) (c ∷ rest) (and_left (c == 62) _ (ne_eqb c 62 m))
      (dash_then table mode escape (ScriptDataEscaped escape)
      [] (c ∷ rest) (and_left (c == 45) _ (ne_eqb c 45 n)) refl))

  pub arrow_before : held ≡ 45 ∷ 45 ∷ [] → c ≡ 62 → IsTextBefore table mode kind held ScriptData c
  arrow_before e f =
      subst (λ d. IsTextBefore table mode kind held ScriptData d) (sym f)
      (at_kind (λ k l. IsTextBefore table mode k l ScriptData 62) (45 ∷ 45 ∷ []) e (λ rest. (
        in_kind mode ScriptData,
        (λ foreign. arrow_then table foreign mode escape rest),
        plain_text table mode ScriptData (45 ∷ []) (62 ∷ rest) refl,
      )))

  pub three_dashes : held ≡ 45 ∷ 45 ∷ [] → c ≡ 45 →
      IsShifted table mode kind (held ++ c ∷ []) (chars (codes "-")) kind (codes "--")
  unfolding chars
  three_dashes e f = record {
    parts = ap (λ l. l ++ c ∷ []) e ∙ ap (λ d. 45 ∷ 45 ∷ d ∷ []) f;
    is_text =
        λ rest. subst (λ k. IsText table (in_kind mode k) (45 ∷ []) (in_kind mode k) (45 ∷ 45 ∷ rest))
        (sym (escaped kind h).is) (dash_then table mode escape (ScriptDataEscaped escape)
        [] (45 ∷ 45 ∷ rest) refl refl);
  }

  pub second_dash : held ≡ 45 ∷ [] → c ≡ 45 → is_raw_held kind Dashes (held ++ c ∷ []) ≡ true
  second_dash e f =
      subst (λ l. is_raw_held kind Dashes l ≡ true) (sym (ap (λ l. l ++ c ∷ []) e ∙ ap (λ d. 45 ∷ d ∷ []) f))
      (and_from (is_escaped kind) true h refl)
