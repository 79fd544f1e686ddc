-- A further character of a tag.
use Rattle.std.proofs.Common.{◌≡◌, ◌≢◌, ◌==◌, [], ◌∷◌, ◌++◌, ◌∙◌, Bool, IsUtf8, List, None, Option, Some, ap}
use Rattle.std.proofs.Common.{append_assoc, false, not, option_map, refl, sym, true, ℕ}
use Rattle.std.specs.Str.{chars}
use Rattle.std.specs.Char.{IsScalar}
use Rattle.std.proofs.lemmas.Bool.{false≢true, ne_eqb}
use Rattle.std.proofs.lemmas.Str.{chars-append}
use lib.Utf8.{encode}
use Rattle.lex_base.specs.References.{References}
use Rattle.html_lexemes.specs.declared.token.Tag.{Tag as SeenTag}
use Rattle.html_lexemes.specs.declared.token.TagKind.{TagKind}
use Rattle.token_grammar.specs.Characters.{is_letter}
use Rattle.token_grammar.specs.Lexemes.{tag_lexeme}
use Rattle.token_grammar.specs.Slices.{front_while, rest_while}
use Rattle.token_grammar.specs.Tags.{TagEnd, ends_tag_name, tag_at, tag_end, tag_of}
use Rattle.token_grammar.specs.declared.modes.Mode.{Mode}
use Rattle.token_grammar.proofs.MarkLemmas.{chars-encode}
use Rattle.token_states.specs.TagPlaces.{IsInTag, rest_in, tag_rest}
use Rattle.token_states.specs.Turns.{LeavesText, Turns, with_more}
use Rattle.token_states.specs.declared.place.LexemeState.TheVariants.{Tag}
use Rattle.token_states.specs.declared.place.TagPlace.{TagPlace}
use Rattle.token_states.specs.declared.place.TagPlace.TheVariants.{TagName}
use Rattle.token_states.specs.declared.turn.Turn.TheVariants.{Goes, Ends}
use Rattle.token_grammar.proofs.SliceLemmas.{rest_on}
use Rattle.token_states.proofs.TagsGoOn.{TagGrows, tag-grows}

-- the text with a character pushed
pub pushed_text : (old new : List ℕ) (c : ℕ) → IsUtf8 old → IsScalar c → new ≡ old ++ encode c →
    chars new ≡ chars old ++ c ∷ []
pushed_text old new c text scalar e =
    ap chars e ∙ chars-append old (encode c) text ∙ ap (λ l. chars old ++ l) (chars-encode c scalar)

-- a tag that leaves nothing is over
leaves_nothing : (o : Option (SeenTag × List ℕ)) → option_map (λ (read : SeenTag × List ℕ). read.1) o ≡ Some [] →
    LeavesText (tag_lexeme o)
leaves_nothing None e = absurd cc
leaves_nothing (Some read) e = cc

settled : (rest : List ℕ) (o later : Option (SeenTag × List ℕ)) → option_map (λ (read : SeenTag × List ℕ). read.1) o
    ≡ Some [] → TagGrows rest o later → tag_lexeme later ≡ with_more rest (tag_lexeme o)
settled rest None later e h = absurd cc
settled rest (Some read) later e h = ap tag_lexeme h

module _ (kind : TagKind) (place : TagPlace) (held now : List ℕ) (c : ℕ) (in_tag : IsInTag kind place held)
    (pushed : now ≡ held ++ c ∷ []) where
  more_held : (rest : List ℕ) → now ++ rest ≡ held ++ c ∷ rest
  more_held rest = ap (λ l. l ++ rest) pushed ∙ append_assoc held (c ∷ []) rest

  taken : (table : References) (rest : List ℕ) → tag_lexeme (tag_at table kind (now ++ rest))
      ≡ tag_lexeme (tag_at table kind (held ++ c ∷ rest))
  taken table rest = ap (λ l. tag_lexeme (tag_at table kind l)) (more_held rest)

  pub tag_goes : (next : TagPlace) →
      ((table : References) (cs : List ℕ) → rest_in table place (c ∷ cs) ≡ rest_in table next cs)
      → (table : References) (foreign : Bool) (mode : Mode) →
      Turns table foreign mode (Tag kind place) held c (Goes (Tag kind next)) now
  tag_goes next step table foreign mode = (
    taken table,
    λ table rest. ap (λ l. option_map (λ (read : SeenTag × List ℕ). read.1) (tag_at table kind l)) (more_held rest) ∙
        in_tag table (c ∷ rest) ∙ step table rest,
  )

  pub tag_ends : ((table : References) (cs : List ℕ) → rest_in table place (c ∷ cs) ≡ Some cs)
      → (table : References) (foreign : Bool) (mode : Mode) →
      Turns table foreign mode (Tag kind place) held c (Ends (Tag kind place)) now
  tag_ends step table foreign mode =
      let nothing : option_map (λ (read : SeenTag × List ℕ). read.1) (tag_at table kind now) ≡ Some [] =
      ap (λ l. option_map (λ (read : SeenTag × List ℕ). read.1) (tag_at table kind l)) pushed ∙ in_tag table (c ∷ []) ∙
      step table [] in (
        taken table,
        record {
          settled =
              λ rest. settled rest (tag_at table kind now) (tag_at table kind (now ++ rest)) nothing
              (tag-grows table kind now rest);
          left = leaves_nothing (tag_at table kind now) nothing;
        },
      )

-- ---- a letter opens a tag

letter_is_not : (c k : ℕ) → is_letter c ≡ true → is_letter k ≡ false → c ≢ k
letter_is_not c k letter other = λ e. false≢true (sym other ∙ ap is_letter (sym e) ∙ letter)

letter_in_name : (c : ℕ) → is_letter c ≡ true → not (ends_tag_name c) ≡ true
letter_in_name c letter =
    let differs : (k : ℕ) → is_letter k ≡ false → (c == k) ≡ false =
    λ k other. ne_eqb c k (letter_is_not c k letter other) in
    rw (differs 9 refl, differs 10 refl, differs 12 refl, differs 32 refl, differs 47 refl, differs 62 refl) refl

rest_of_tag : (kind : TagKind) (name : List ℕ) (o : Option TagEnd)
    → option_map (λ (read : SeenTag × List ℕ). read.1)
    (option_map (λ (end : TagEnd). (tag_of kind name end, end.rest)) o) ≡ option_map (λ (end : TagEnd). end.rest) o
rest_of_tag kind name None = refl
rest_of_tag kind name (Some end) = refl

pub letter-in_tag : (kind : TagKind) (c : ℕ) → is_letter c ≡ true → IsInTag kind TagName (c ∷ [])
letter-in_tag kind c letter table rest =
    let p : ℕ → Bool = λ d. not (ends_tag_name d) in
    rest_of_tag kind (front_while p (c ∷ rest)) (tag_end table (rest_while p (c ∷ rest))) ∙
    ap (tag_rest table) (rest_on p c rest (letter_in_name c letter))
