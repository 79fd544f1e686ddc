-- Text of an element that is text character by character.
use Rattle.std.proofs.Common.{◌≡◌, ◌==◌, ◌&&◌, ◌||◌, [], ◌∷◌, ◌++◌, ◌∙◌, Bool, List, ap, arith, codes, false, refl, sym}
use Rattle.std.proofs.Common.{true, ℕ}
use Rattle.std.proofs.lemmas.Bool.{and_parts, and_left, not-true, or_parts}
use Rattle.std.proofs.lemmas.Bool.Decides.{nat_tests}
use Rattle.std.specs.Char.{to_ascii_lowercase}
use Rattle.std.specs.List.{list_all}
use Rattle.lex_base.specs.References.{References}
use Rattle.html_lexemes.specs.declared.states.RawKind.{RawKind}
use Rattle.html_lexemes.specs.declared.states.RawKind.TheVariants.{Rcdata, Rawtext, ScriptData, ScriptDataEscaped}
use Rattle.html_lexemes.specs.declared.states.ScriptEscapeKind.{ScriptEscapeKind}
use Rattle.html_lexemes.specs.declared.states.ScriptEscapeKind.TheVariants.{Escaped, DoubleEscaped}
use Rattle.token_grammar.specs.Items.{characters}
use Rattle.token_grammar.specs.Lexemes.{begins_tag, emitted, ends_raw_text, has_end_tags, has_references, in_kind}
use Rattle.token_grammar.specs.Lexemes.{kind_after, lexeme}
use Rattle.token_grammar.specs.Slices.{begins, begins_word}
use Rattle.token_grammar.specs.declared.modes.Mode.{Mode}
use Rattle.token_grammar.proofs.LexemeLemmas.{chosen_false}
use Rattle.token_states.specs.RawTurns.{IsText}
use Rattle.token_states.specs.Turns.{is_raw_text}

-- one character of text, after which the text is of a kind
abbrev pub IsOne : References → Bool → Mode → RawKind → ℕ → RawKind → List ℕ → Type 0
IsOne table foreign mode kind c trailing rest = lexeme table foreign (in_kind mode kind) (c ∷ rest)
    ≡ emitted (characters (c ∷ []) ∷ []) (in_kind mode trailing) rest

pub one : (table : References) (foreign : Bool) (mode : Mode) (kind trailing : RawKind) (c : ℕ) (rest : List ℕ) →
    (c == 60 && has_end_tags kind && ends_raw_text mode.last_start_tag rest) ≡ false → (c == 38) ≡ false →
    (c == 0) ≡ false → kind_after kind (c ∷ rest) ≡ trailing → IsOne table foreign mode kind c trailing rest
one table foreign mode kind trailing c rest e r n k =
    sym (chosen_false (c == 60 && has_end_tags kind && ends_raw_text mode.last_start_tag rest) _ _ e)
    ∙ sym (chosen_false (c == 38 && has_references kind) _ _ (and_left (c == 38) (has_references kind) r))
    ∙ ap (λ d. emitted (characters (d ∷ []) ∷ []) (in_kind mode (kind_after kind (c ∷ rest))) rest)
    (sym (chosen_false (c == 0) 0xFFFD c n))
    ∙ ap (λ l. emitted (characters (c ∷ []) ∷ []) (in_kind mode l) rest) k

-- a character that is text whatever follows it
pub record IsPlain (kind : RawKind) (c : ℕ) : Type 0 where
  pub no_nul : (c == 0) ≡ false
  pub no_sign : (c == 60) ≡ false
  pub no_reference : (c == 38) ≡ false
  pub same : (rest : List ℕ) → kind_after kind (c ∷ rest) ≡ kind

lower_sign : (c : ℕ) → (c == 60) ≡ false → (to_ascii_lowercase c == 60) ≡ false
lower_sign c h = grind (arith, nat_tests)

no_tag : (word : List ℕ) (c : ℕ) (rest : List ℕ) → (c == 60) ≡ false → begins_tag (60 ∷ word) (c ∷ rest) ≡ false
no_tag word c rest h =
    and_left (begins_word (60 ∷ word) (c ∷ rest)) _ (and_left (to_ascii_lowercase c == 60) _ (lower_sign c h))

pub escaped_same : (escape : ScriptEscapeKind) (cs : List ℕ) → begins (codes "-->") cs ≡ false →
    begins_tag (codes "<script") cs ≡ false → begins_tag (codes "</script") cs ≡ false →
    kind_after (ScriptDataEscaped escape) cs ≡ ScriptDataEscaped escape
escaped_same Escaped cs a b d =
    sym (chosen_false (begins (codes "-->") cs) _ _ a) ∙ sym (chosen_false (begins_tag (codes "<script") cs) _ _ b)
escaped_same DoubleEscaped cs a b d =
    sym (chosen_false (begins (codes "-->") cs) _ _ a) ∙ sym (chosen_false (begins_tag (codes "</script") cs) _ _ d)

kept : (kind : RawKind) (c : ℕ) (rest : List ℕ) → is_raw_text kind c ≡ true → (c == 60) ≡ false →
    kind_after kind (c ∷ rest) ≡ kind
kept Rcdata c rest h e = refl
kept Rawtext c rest h e = refl
kept ScriptData c rest h e = sym (chosen_false (begins (codes "<!--") (c ∷ rest)) _ _ (and_left (c == 60) _ e))
kept (ScriptDataEscaped escape) c rest h e =
    escaped_same escape (c ∷ rest)
    (and_left (c == 45) _ (or_parts (c == 0 || c == 60 || c == 38) (c == 45) (not-true _ h)).1)
    (no_tag (codes "script") c rest e) (no_tag (codes "/script") c rest e)

three : (c : ℕ) → (c == 0 || c == 60 || c == 38) ≡ false → ((c == 0) ≡ false) × ((c == 60) ≡ false)
    × ((c == 38) ≡ false)
three c h =
    let p = or_parts (c == 0 || c == 60) (c == 38) h in
    let q = or_parts (c == 0) (c == 60) p.0 in
    (q.0, q.1, p.1)

parts : (kind : RawKind) (c : ℕ) → is_raw_text kind c ≡ true → ((c == 0) ≡ false) × ((c == 60) ≡ false)
    × ((c == 38) ≡ false)
parts Rcdata c h = three c (not-true _ h)
parts Rawtext c h = three c (not-true _ h)
parts ScriptData c h = three c (not-true _ h)
parts (ScriptDataEscaped e) c h = three c (or_parts (c == 0 || c == 60 || c == 38) (c == 45) (not-true _ h)).0

pub plain : (kind : RawKind) (c : ℕ) → is_raw_text kind c ≡ true → IsPlain kind c
plain kind c h =
    let p = parts kind c h in
    record { no_nul = p.0; no_sign = p.1; no_reference = p.2; same = λ rest. kept kind c rest h p.1 }

pub plain_one : (table : References) (foreign : Bool) (mode : Mode) (kind : RawKind) (c : ℕ) (rest : List ℕ) →
    is_raw_text kind c ≡ true → IsOne table foreign mode kind c kind rest
plain_one table foreign mode kind c rest h =
    let p = plain kind c h in
    one table foreign mode kind kind c rest (and_left (c == 60 && has_end_tags kind) _
    (and_left (c == 60) (has_end_tags kind) p.no_sign)) p.no_reference p.no_nul (p.same rest)

-- a text of such characters
pub plain_text : (table : References) (mode : Mode) (kind : RawKind) (text rest : List ℕ) →
    list_all (is_raw_text kind) text ≡ true → IsText table (in_kind mode kind) text (in_kind mode kind) rest
plain_text table mode kind [] rest h = refl
plain_text table mode kind (c ∷ text) rest h =
    let p = and_parts (is_raw_text kind c) (list_all (is_raw_text kind) text) h in (
      in_kind mode kind,
      (λ foreign. plain_one table foreign mode kind c (text ++ rest) p.0),
      plain_text table mode kind text rest p.1,
    )

-- `<`, which is text, and such characters after it
pub sign_text : (table : References) (mode : Mode) (kind trailing : RawKind) (text rest : List ℕ) →
    (has_end_tags kind && ends_raw_text mode.last_start_tag (text ++ rest)) ≡ false →
    kind_after kind (60 ∷ (text ++ rest)) ≡ trailing → list_all (is_raw_text trailing) text ≡ true →
    IsText table (in_kind mode kind) (60 ∷ text) (in_kind mode trailing) rest
sign_text table mode kind trailing text rest e k h = (
  in_kind mode trailing,
  (λ foreign. one table foreign mode kind trailing 60 (text ++ rest) e refl refl k),
  plain_text table mode trailing text rest h,
)

-- a dash of an escaped part
pub dash_one : (table : References) (foreign : Bool) (mode : Mode) (escape : ScriptEscapeKind) (rest : List ℕ) →
    begins (codes "->") rest ≡ false →
    IsOne table foreign mode (ScriptDataEscaped escape) 45 (ScriptDataEscaped escape) rest
dash_one table foreign mode escape rest h =
    one table foreign mode (ScriptDataEscaped escape) (ScriptDataEscaped escape) 45 rest refl refl refl
    (escaped_same escape (45 ∷ rest) h refl refl)
