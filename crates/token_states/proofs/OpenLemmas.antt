-- What a character after `<` or `</` begins.
use Rattle.std.proofs.Common.{◌≡◌, ◌==◌, [], ◌∷◌, ◌++◌, ◌∙◌, Bool, List, None, Option, Some, ap, false, not, option_map}
use Rattle.std.proofs.Common.{refl, subst, sym, true, ℕ}
use Rattle.std.proofs.lemmas.Bool.{both_ways, ne_eqb}
use Rattle.std.specs.Prelude.{if◌then◌else◌}
use Rattle.lex_base.specs.References.{References}
use Rattle.html_lexemes.specs.declared.token.Tag.{Tag as SeenTag}
use Rattle.html_lexemes.specs.declared.token.TagKind.{TagKind}
use Rattle.html_lexemes.specs.declared.token.TagKind.TheVariants.{StartTag, EndTag}
use Rattle.token_grammar.proofs.LexemeLemmas.{chosen_false, chosen_true}
use Rattle.token_grammar.specs.Characters.{is_letter}
use Rattle.token_grammar.specs.Comments.{bogus_comment_slice}
use Rattle.token_grammar.specs.Lexemes.{after_slash, comment_lexeme, markup, tag_lexeme}
use Rattle.token_grammar.specs.Slices.{front_while, rest_while}
use Rattle.token_grammar.specs.Tags.{TagEnd, ends_tag_name, tag_at, tag_end, tag_of}
use Rattle.token_grammar.specs.declared.modes.Mode.{Mode}
use Rattle.token_states.specs.MarkupSound.{HasNoGreater}
use Rattle.token_states.specs.TagPlaces.{IsInTag}
use Rattle.token_states.specs.Turns.{IsOver, IsTaken}
use Rattle.token_states.specs.declared.place.LexemeState.TheVariants.{BogusComment, EndTagOpen, Tag, TagOpen}
use Rattle.token_states.specs.declared.place.TagPlace.TheVariants.{TagName}
use Rattle.token_states.proofs.MarkupHeld.{over_by}

-- a letter is in a name
no_letter : (k c : ℕ) → is_letter c ≡ true → is_letter k ≡ false → (c == k) ≡ false
no_letter k c l n = ne_eqb c k (λ e. both_ways (is_letter c) (ap is_letter e ∙ n) l)

letter_in_name : (c : ℕ) → is_letter c ≡ true → ends_tag_name c ≡ false
letter_in_name c l =
    rw (
      no_letter 9 c l refl,
      no_letter 10 c l refl,
      no_letter 12 c l refl,
      no_letter 32 c l refl,
      no_letter 47 c l refl,
      no_letter 62 c l refl,
    ) refl

rest_of : (kind : TagKind) (name : List ℕ) (o : Option TagEnd) →
    option_map (λ (read : SeenTag × List ℕ). read.1) (option_map (λ (end : TagEnd). (tag_of kind name end, end.rest)) o)
    ≡ option_map (λ (end : TagEnd). end.rest) o
rest_of kind name None = refl
rest_of kind name (Some end) = refl

letter_in_tag : (kind : TagKind) (c : ℕ) → is_letter c ≡ true → IsInTag kind TagName (c ∷ [])
letter_in_tag kind c l table rest =
    rest_of kind (front_while (λ d. not (ends_tag_name d)) (c ∷ rest))
    (tag_end table (rest_while (λ d. not (ends_tag_name d)) (c ∷ rest)))
    ∙ ap (λ b. option_map (λ (end : TagEnd). end.rest)
    (tag_end table (if not b then rest_while (λ d. not (ends_tag_name d)) rest else c ∷ rest))) (letter_in_name c l)

-- the character is all that is held
pub only : (hs now : List ℕ) (c : ℕ) → hs ≡ [] → now ≡ hs ++ c ∷ [] → now ≡ c ∷ []
only hs now c none e = e ∙ ap (λ l. l ++ c ∷ []) none

pub tag_sound : (kind : TagKind) (now : List ℕ) (c : ℕ) → is_letter c ≡ true → now ≡ c ∷ [] → IsInTag kind TagName now
tag_sound kind now c l e = subst (IsInTag kind TagName) (sym e) (letter_in_tag kind c l)

pub start_tag_taken : (table : References) (foreign : Bool) (mode : Mode) (hs now : List ℕ) (c : ℕ) →
    is_letter c ≡ true → hs ≡ [] → now ≡ c ∷ [] → IsTaken table foreign mode TagOpen hs c (Tag StartTag TagName) now
start_tag_taken table foreign mode hs now c l none e rest =
    ap (λ n. tag_lexeme (tag_at table StartTag (n ++ rest))) e
    ∙ (chosen_true (is_letter c) _ _ l ∙ ap (λ h. markup table foreign mode (h ++ c ∷ rest)) (sym none))

pub end_tag_taken : (table : References) (foreign : Bool) (mode : Mode) (hs now : List ℕ) (c : ℕ) → is_letter c ≡ true →
    hs ≡ [] → now ≡ c ∷ [] → IsTaken table foreign mode EndTagOpen hs c (Tag EndTag TagName) now
end_tag_taken table foreign mode hs now c l none e rest =
    ap (λ n. tag_lexeme (tag_at table EndTag (n ++ rest))) e
    ∙ (chosen_true (is_letter c) _ _ l ∙ ap (λ h. after_slash table mode (h ++ c ∷ rest)) (sym none))

-- a question mark, and another character after `</`
pub question_taken : (table : References) (foreign : Bool) (mode : Mode) (hs now : List ℕ) (c : ℕ) → c ≡ 63 → hs ≡ [] →
    now ≡ c ∷ [] → IsTaken table foreign mode TagOpen hs c BogusComment now
question_taken table foreign mode hs now c q none e rest =
    ap (λ n. comment_lexeme mode (bogus_comment_slice (n ++ rest))) (e ∙ ap (λ d. d ∷ []) q)
    ∙ (ap (λ d. markup table foreign mode (d ∷ rest)) (sym q) ∙ ap (λ h. markup table foreign mode (h ++ c ∷ rest))
    (sym none))

pub no_greater_one : (now : List ℕ) (c : ℕ) → (c == 62) ≡ false → now ≡ c ∷ [] → HasNoGreater now
no_greater_one now c n e = rw (e, n) refl

pub slash_taken : (table : References) (foreign : Bool) (mode : Mode) (hs now : List ℕ) (c : ℕ) → is_letter c ≡ false →
    (c == 62) ≡ false → hs ≡ [] → now ≡ c ∷ [] → IsTaken table foreign mode EndTagOpen hs c BogusComment now
slash_taken table foreign mode hs now c l n none e rest =
    ap (λ m. comment_lexeme mode (bogus_comment_slice (m ++ rest))) e
    ∙ (chosen_false (c == 62) _ _ n
    ∙ (chosen_false (is_letter c) _ _ l ∙ ap (λ h. after_slash table mode (h ++ c ∷ rest)) (sym none)))

pub slash_over : (table : References) (foreign : Bool) (mode : Mode) (now : List ℕ) (c : ℕ) → c ≡ 62 → now ≡ c ∷ [] →
    IsOver table foreign mode EndTagOpen now []
slash_over table foreign mode now c g e =
    over_by table foreign mode EndTagOpen now _ mode
    (λ rest. ap (λ n. after_slash table mode (n ++ rest)) (e ∙ ap (λ d. d ∷ []) g))
