-- The turn at `<!` or `<!-` of script data.
use Rattle.std.proofs.Common.{◌≡◌, ◌≢◌, ◌⊎◌, ◌==◌, ◌&&◌, [], ◌∷◌, ◌++◌, ◌∙◌, IsUtf8, List, ap, arith, codes}
use Rattle.std.proofs.Common.{encode_utf8_all, inl, inr, length, refl, subst, sym, true, ℕ}
use Rattle.std.proofs.lemmas.Bool.{and_from, and_parts, and_left, eqb-true, ne_eqb}
use Rattle.std.proofs.lemmas.Str.{encodes-chars}
use Rattle.std.specs.Str.{chars}
use Rattle.lex_base.specs.References.{References}
use Rattle.html_lexemes.specs.declared.states.RawKind.{RawKind}
use Rattle.html_lexemes.specs.declared.states.RawKind.TheVariants.{Rcdata, Rawtext, ScriptData, ScriptDataEscaped}
use Rattle.html_lexemes.specs.declared.states.ScriptEscapeKind.TheVariants.{Escaped}
use Rattle.token_grammar.specs.Lexemes.{in_kind}
use Rattle.token_grammar.specs.declared.modes.Mode.{Mode}
use Rattle.token_grammar.proofs.LexemeLemmas.{not_opened, opened}
use Rattle.token_states.specs.RawSound.{is_escape_begun, is_raw_held, is_script_data}
use Rattle.token_states.specs.RawTurns.{IsShifted, IsText, IsTextBefore}
use Rattle.token_states.specs.declared.place.RawPlace.TheVariants.{EscapeStart}
use Rattle.token_states.proofs.RawTextLemmas.{sign_text}

pub script_data : (kind : RawKind) → is_script_data kind ≡ true → kind ≡ ScriptData
script_data Rcdata e = absurd cc
script_data Rawtext e = absurd cc
script_data ScriptData e = refl
script_data (ScriptDataEscaped part) e = absurd cc

pub begun : (held : List ℕ) → is_escape_begun held ≡ true → (held ≡ 60 ∷ 33 ∷ []) ⊎ (held ≡ 60 ∷ 33 ∷ 45 ∷ [])
begun [] h = absurd cc
begun (l ∷ []) h = absurd cc
begun (l ∷ b ∷ []) h =
    let p = and_parts (l == 60) (b == 33) h in
    inl (ap (λ x. x ∷ b ∷ []) (eqb-true l 60 p.0) ∙ ap (λ x. 60 ∷ x ∷ []) (eqb-true b 33 p.1))
begun (l ∷ b ∷ d ∷ []) h =
    let p = and_parts (l == 60 && b == 33) (d == 45) h in
    let q = and_parts (l == 60) (b == 33) p.0 in
    inr (ap (λ x. x ∷ b ∷ d ∷ []) (eqb-true l 60 q.0) ∙ ap (λ x. 60 ∷ x ∷ d ∷ []) (eqb-true b 33 q.1) ∙
    ap (λ x. 60 ∷ 33 ∷ x ∷ []) (eqb-true d 45 p.1))
begun (l ∷ b ∷ d ∷ e ∷ held) h = absurd cc

two_bytes : (bs : List ℕ) → IsUtf8 bs → chars bs ≡ 60 ∷ 33 ∷ [] → length bs ≡ 2
unfolding lib.Utf8.encode
two_bytes bs u e = ap length (sym (encodes-chars bs u) ∙ ap encode_utf8_all e)

three_bytes : (bs : List ℕ) → IsUtf8 bs → chars bs ≡ 60 ∷ 33 ∷ 45 ∷ [] → length bs ≡ 3
unfolding lib.Utf8.encode
three_bytes bs u e = ap length (sym (encodes-chars bs u) ∙ ap encode_utf8_all e)

pub without_dash : (bs : List ℕ) → IsUtf8 bs → is_escape_begun (chars bs) ≡ true → length bs ≡ 2 →
    chars bs ≡ 60 ∷ 33 ∷ []
without_dash bs u h n = elim (begun (chars bs) h) [
  | inl e ↦ e
  | inr e ↦ absurd (omega (arith, three_bytes bs u e))
]

pub with_dash : (bs : List ℕ) → IsUtf8 bs → is_escape_begun (chars bs) ≡ true → length bs ≢ 2 →
    chars bs ≡ 60 ∷ 33 ∷ 45 ∷ []
with_dash bs u h n = elim (begun (chars bs) h) [
  | inl e ↦ absurd (n (two_bytes bs u e))
  | inr e ↦ e
]

module _ (table : References) (mode : Mode) (kind : RawKind) (c : ℕ) (held : List ℕ)
    (h : is_script_data kind ≡ true) where
  at_kind : (P : RawKind → List ℕ → Type 0) (cs : List ℕ) → held ≡ cs → P ScriptData cs → P kind held
  at_kind P cs e p = subst (λ l. P kind l) (sym e) (subst (λ k. P k cs) (sym (script_data kind h)) p)

  pub escape_before : is_escape_begun held ≡ true → c ≢ 45 → IsTextBefore table mode kind held kind c
  escape_before s n = elim (begun held s) [
    | inl e ↦ at_kind (λ k l. IsTextBefore table mode k l k c) (60 ∷ 33 ∷ []) e (λ rest.
        sign_text table mode ScriptData ScriptData (33 ∷ []) (c ∷ rest) refl
        (sym (not_opened (60 ∷ 33 ∷ c ∷ rest) (and_left (c == 45) _ (ne_eqb c 45 n)))) refl)
    | inr e ↦ at_kind (λ k l. IsTextBefore table mode k l k c) (60 ∷ 33 ∷ 45 ∷ []) e (λ rest.
        sign_text table mode ScriptData ScriptData (33 ∷ 45 ∷ []) (c ∷ rest) refl
        (sym (not_opened (60 ∷ 33 ∷ 45 ∷ c ∷ rest) (and_left (c == 45) _ (ne_eqb c 45 n)))) refl)
  ]

  pub first_dash : held ≡ 60 ∷ 33 ∷ [] → c ≡ 45 → is_raw_held kind EscapeStart (held ++ c ∷ []) ≡ true
  first_dash e f =
      subst (λ l. is_raw_held kind EscapeStart l ≡ true) (sym (ap (λ l. l ++ c ∷ []) e ∙ ap (λ d. 60 ∷ 33 ∷ d ∷ []) f))
      (and_from (is_script_data kind) true h refl)

  pub escape_begins : held ≡ 60 ∷ 33 ∷ 45 ∷ [] → c ≡ 45 →
      IsShifted table mode kind (held ++ c ∷ []) (chars (codes "<!")) (ScriptDataEscaped Escaped) (codes "--")
  unfolding chars
  escape_begins e f = record {
    parts = ap (λ l. l ++ c ∷ []) e ∙ ap (λ d. 60 ∷ 33 ∷ 45 ∷ d ∷ []) f;
    is_text =
        λ rest. subst (λ k. IsText table (in_kind mode k) (60 ∷ 33 ∷ []) (in_kind mode (ScriptDataEscaped Escaped))
        (45 ∷ 45 ∷ rest)) (sym (script_data kind h))
        (sign_text table mode ScriptData (ScriptDataEscaped Escaped) (33 ∷ []) (45 ∷ 45 ∷ rest) refl
        (sym (opened (60 ∷ 33 ∷ 45 ∷ 45 ∷ rest) refl)) refl);
  }
