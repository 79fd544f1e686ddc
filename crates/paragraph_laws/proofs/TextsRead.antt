-- The source of a text is read as the text, character by character.
use Rattle.std.proofs.Common.{◌≡◌, ◌≢◌, ◌==◌, [], ◌∷◌, ◌++◌, if◌then◌else◌, ◌∙◌, Bool, List, Option, ap, append_assoc}
use Rattle.std.proofs.Common.{arith, false, inl, inr, subst, sym, ℕ}
use Rattle.std.proofs.lemmas.Bool.Decides.{nat_tests}
use Rattle.document_laws.specs.Escaped.{KnowsEscapes}
use Rattle.token_grammar.specs.Items.{characters, null_character}
use Rattle.token_grammar.specs.Lexemes.{lexeme, markup, one_character, ordinary_item, reference_lexeme, emitted}
use Rattle.token_grammar.specs.Meaning.{Meaning}
use Rattle.token_grammar.specs.Reading.{Reading, goes}
use Rattle.token_grammar.specs.References.{reference}
use Rattle.token_grammar.specs.declared.modes.Mode.{Mode}
use Rattle.token_grammar.specs.declared.modes.TextKind.TheVariants.{Ordinary}
use Rattle.lex_base.specs.References.{References}
use Rattle.paragraph_laws.proofs.NamedCharacters.{reference_read}
use Rattle.paragraph_laws.specs.ParagraphPage.{IsCharacter, IsText}

-- ordinary text after a start tag
abbrev pub ordinary : Option (List ℕ) → Mode
ordinary last = record { text = Ordinary; last_start_tag = last }

is_other : (c n : ℕ) → c ≢ n → (c == n) ≡ false
is_other c n h = grind (arith, nat_tests, h)

module _ (table : References) (foreign : Bool) (last : Option (List ℕ)) (rest : List ℕ) where
  itself_read : (c : ℕ) → (c == 60) ≡ false → (c == 38) ≡ false → (c == 0) ≡ false →
      lexeme table foreign (ordinary last) (c ∷ rest) ≡ one_character (ordinary last) c rest
  itself_read c less ampersand nul =
      ap (λ b. if b then markup table foreign (ordinary last) rest
      else (if c == 38 then reference_lexeme (ordinary last) rest (reference table rest)
      else emitted (ordinary_item c ∷ []) (ordinary last) rest)) less
      ∙ ap (λ b. if b then reference_lexeme (ordinary last) rest (reference table rest)
      else emitted (ordinary_item c ∷ []) (ordinary last) rest) ampersand
      ∙ ap (λ b. emitted ((if b then null_character else characters (c ∷ [])) ∷ []) (ordinary last) rest) nul

  character_read : KnowsEscapes table → (source : List ℕ) (c : ℕ) → IsCharacter source c →
      lexeme table foreign (ordinary last) (source ++ rest) ≡ one_character (ordinary last) c rest
  character_read knows source c (inl itself) =
      ap (λ l. lexeme table foreign (ordinary last) (l ++ rest)) itself.0
      ∙ itself_read c (is_other c 60 itself.1) (is_other c 38 itself.2) (is_other c 0 itself.3)
  character_read knows source c (inr named) =
      ap (λ l. lexeme table foreign (ordinary last) (l ++ rest)) named.1
      ∙ ap (reference_lexeme (ordinary last) (named.0 ++ rest)) (reference_read table knows rest named.0 c named.2)

-- texts that follow each other are as one
abbrev pub Joins : {A H : Type 0} → Meaning A H → Type 0
Joins {A} means = (s : A) (c : ℕ) (cs : List ℕ) →
    means.step (means.step s (characters (c ∷ []))) (characters cs) ≡ means.step s (characters (c ∷ cs))

-- no text changes nothing
abbrev pub Skips : {A H : Type 0} → Meaning A H → Type 0
Skips {A} means = (s : A) → means.step s (characters []) ≡ s

module _ {A H : Type 0} (means : Meaning A H) (joins : Joins means) (skips : Skips means) (table : References)
    (knows : KnowsEscapes table) (last : Option (List ℕ)) (rest : List ℕ) (final : A) where
  pub text_read : (s : A) (source text : List ℕ) → IsText source text →
      Reading table means (ordinary last) (means.step s (characters text)) rest final →
      Reading table means (ordinary last) s (source ++ rest) final
  text_read s source [] is r =
      subst (λ l. Reading table means (ordinary last) s (l ++ rest) final) (sym is)
      (subst (λ z. Reading table means (ordinary last) z rest final) (skips s) r)
  text_read s source (c ∷ cs) is r =
      let first : List ℕ = is.0 in
      let others : List ℕ = is.1 in
      let trailing = text_read (means.step s (characters (c ∷ []))) others cs is.4
      (subst (λ z. Reading table means (ordinary last) z rest final) (sym (joins s c cs)) r) in
      subst (λ l. Reading table means (ordinary last) s l final)
      (sym (ap (λ l. l ++ rest) is.2 ∙ append_assoc first others rest))
      (goes (ordinary last) s (first ++ (others ++ rest)) (characters (c ∷ []) ∷ []) (ordinary last) (others ++ rest)
      final (character_read table (means.foreign s) last (others ++ rest) knows first c is.3) trailing)
