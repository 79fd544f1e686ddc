-- The first character of raw text.
use Rattle.std.proofs.Common.{◌≡◌, ℕ, Bool, true, false, ◌==◌, ◌&&◌, List, [], ◌∷◌, Option, refl, sym, ap, ◌∙◌, arith}
use Rattle.std.specs.Char.{to_ascii_lowercase}
use Rattle.std.proofs.lemmas.Bool.{and_parts, and_left, and_right, eqb-true}
use Rattle.std.proofs.lemmas.Bool.Decides.{nat_tests}
use Rattle.lex_base.specs.References.{References}
use Rattle.html_lexemes.specs.declared.states.RawKind.{RawKind}
use Rattle.html_lexemes.specs.declared.states.RawKind.TheVariants.{Rcdata, Rawtext, ScriptData, ScriptDataEscaped}
use Rattle.html_lexemes.specs.declared.states.ScriptEscapeKind.TheVariants.{Escaped, DoubleEscaped}
use Rattle.token_grammar.specs.Characters.{shown}
use Rattle.token_grammar.specs.Items.{characters}
use Rattle.token_grammar.specs.Lexemes.{emitted, ends_raw_text, has_end_tags, has_references, in_kind, kind_after}
use Rattle.token_grammar.specs.Lexemes.{lexeme, lexeme_in, one_character, raw_lexeme, reference_lexeme}
use Rattle.token_grammar.specs.References.{reference}
use Rattle.token_grammar.specs.declared.modes.Mode.{Mode}
use Rattle.token_grammar.specs.declared.modes.TextKind.TheVariants.{Raw}
use Rattle.token_grammar.proofs.LexemeLemmas.{chosen_false, chosen_true}
use Rattle.token_states.specs.Goings.{has_end_tag, may_begin}
use Rattle.token_states.specs.RawSound.{is_escaped}
use Rattle.token_states.proofs.EndTagLemmas.{no_end_tag}

-- a character whose lower case is `<` is `<`
pub lower_sign : (c : ℕ) → (c == 60) ≡ false → (to_ascii_lowercase c == 60) ≡ false
lower_sign c e = grind (arith, nat_tests)

and_true : (b : Bool) → (b && true) ≡ false → b ≡ false
and_true true e = e
and_true false e = e

-- `<` is text where no end tag can have the last start tag's name, other than in script data
no_sign : (last : Option (List ℕ)) (c : ℕ) (rest : List ℕ) (b : Bool) → (c == 60 && has_end_tag last) ≡ false →
    (c == 60 && b && ends_raw_text last rest) ≡ false
no_sign last c rest b e = go (has_end_tag last) refl where
  go : (t : Bool) → has_end_tag last ≡ t → (c == 60 && b && ends_raw_text last rest) ≡ false
  go true f = and_left (c == 60 && b) _ (and_left (c == 60) b (and_true (c == 60) (ap (λ t. c == 60 && t) (sym f) ∙ e)))
  go false f = and_right (c == 60 && b) _ (no_end_tag last rest f)

no_end : (last : Option (List ℕ)) (kind : RawKind) (c : ℕ) (rest : List ℕ) → (c == 60 && may_begin last kind) ≡ false →
    (c == 60 && has_end_tags kind && ends_raw_text last rest) ≡ false
no_end last Rcdata c rest e = no_sign last c rest true e
no_end last Rawtext c rest e = no_sign last c rest true e
no_end last ScriptData c rest e = and_left (c == 60 && true) _ e
no_end last (ScriptDataEscaped part) c rest e =
    and_left (c == 60 && has_end_tags (ScriptDataEscaped part)) _ (and_left (c == 60) _ (and_true (c == 60) e))

same_kind : (last : Option (List ℕ)) (kind : RawKind) (c : ℕ) (rest : List ℕ) → (c == 60 && may_begin last kind)
    ≡ false → (c == 45 && is_escaped kind) ≡ false → kind_after kind (c ∷ rest) ≡ kind
same_kind last Rcdata c rest a b = refl
same_kind last Rawtext c rest a b = refl
same_kind last ScriptData c rest a b = rw (and_true (c == 60) a) refl
same_kind last (ScriptDataEscaped Escaped) c rest a b =
    rw (and_true (c == 45) b, lower_sign c (and_true (c == 60) a)) refl
same_kind last (ScriptDataEscaped DoubleEscaped) c rest a b =
    rw (and_true (c == 45) b, lower_sign c (and_true (c == 60) a)) refl

raw_first : (table : References) (kind : RawKind) (mode : Mode) (c : ℕ) (rest : List ℕ) →
    (c == 60 && may_begin mode.last_start_tag kind) ≡ false → (c == 38 && has_references kind) ≡ false →
    (c == 45 && is_escaped kind) ≡ false → mode.text ≡ Raw kind →
    raw_lexeme table kind mode c rest ≡ emitted (characters (shown c ∷ []) ∷ []) mode rest
raw_first table kind mode c rest a b d m =
    sym (chosen_false (c == 60 && has_end_tags kind && ends_raw_text mode.last_start_tag rest) _ _
    (no_end mode.last_start_tag kind c rest a))
    ∙ sym (chosen_false (c == 38 && has_references kind) _ _ b)
    ∙ ap (λ k. one_character (in_kind mode k) (shown c) rest) (same_kind mode.last_start_tag kind c rest a d)
    ∙ ap (λ t. one_character (record mode { text = t }) (shown c) rest) (sym m)

raw_sign : (table : References) (kind : RawKind) (mode : Mode) (c : ℕ) (rest : List ℕ) →
    (c == 60 && may_begin mode.last_start_tag kind) ≡ false → (c == 38 && has_references kind) ≡ true →
    raw_lexeme table kind mode c rest ≡ reference_lexeme mode rest (reference table rest)
raw_sign table kind mode c rest a b =
    sym (chosen_false (c == 60 && has_end_tags kind && ends_raw_text mode.last_start_tag rest) _ _
    (no_end mode.last_start_tag kind c rest a))
    ∙ sym (chosen_true (c == 38 && has_references kind) _ _ b)

-- the same in a mode of which the kind of text and the last start tag's name are known
pub raw_first_in : (table : References) (foreign : Bool) (last : Option (List ℕ)) (kind : RawKind) (mode : Mode)
    (c d : ℕ) (rest : List ℕ) → d ≡ shown c → (c == 60 && may_begin last kind) ≡ false →
    (c == 38 && has_references kind) ≡ false → (c == 45 && is_escaped kind) ≡ false → mode.text ≡ Raw kind →
    mode.last_start_tag ≡ last →
    lexeme table foreign mode (c ∷ rest) ≡ emitted (characters (d ∷ []) ∷ []) mode rest
raw_first_in table foreign last kind mode c d rest s a b e m l =
    ap (λ t. lexeme_in table foreign t mode c rest) m
    ∙ (raw_first table kind mode c rest (ap (λ o. c == 60 && may_begin o kind) l ∙ a) b e m ∙
    ap (λ x. emitted (characters (x ∷ []) ∷ []) mode rest) (sym s))

-- `&`, which is no `<`
not_sign : (c : ℕ) (b d : Bool) → (c == 38 && b) ≡ true → (c == 60 && d) ≡ false
not_sign c b d e = and_left (c == 60) d (ap (λ x. x == 60) (eqb-true c 38 (and_parts (c == 38) b e).0))

pub raw_sign_in : (table : References) (foreign : Bool) (kind : RawKind) (mode : Mode) (c : ℕ) (rest : List ℕ) →
    (c == 38 && has_references kind) ≡ true → mode.text ≡ Raw kind →
    lexeme table foreign mode (c ∷ rest) ≡ reference_lexeme mode rest (reference table rest)
raw_sign_in table foreign kind mode c rest b m =
    ap (λ t. lexeme_in table foreign t mode c rest) m ∙ raw_sign table kind mode c rest
    (not_sign c (has_references kind) (may_begin mode.last_start_tag kind) b) b

swapped : (a b : Bool) → (a && b) ≡ true → (b && a) ≡ true
swapped true true e = e
swapped true false e = e
swapped false b e = absurd (let k : false ≡ true = e in cc)

pub dash_first : (kind : RawKind) (c : ℕ) → (c == 45 && is_escaped kind) ≡ true → (is_escaped kind && c == 45) ≡ true
dash_first kind c e = swapped (c == 45) (is_escaped kind) e
