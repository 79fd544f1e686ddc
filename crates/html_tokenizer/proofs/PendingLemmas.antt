-- What a turn says, once it is known which it is.
use Rattle.std.proofs.Common.{◌≡◌, ℕ, Bool, List, [], Option, Some, None, MatchOption, IfSome, IsTrue, refl, sym, subst}
use Rattle.std.specs.FinMap as finite
use Rattle.lex_base.specs.References.{References}
use Rattle.html_lexemes.specs.declared.states.RawKind.{RawKind}
use Rattle.token_grammar.specs.declared.modes.Mode.{Mode}
use Rattle.token_grammar.specs.declared.modes.TextKind.TheVariants.{Ordinary}
use Rattle.token_grammar.specs.declared.modes.TextKind.{TextKind}
use Rattle.token_states.specs.PlaceKinds.{IsPlaceOf, KeepsKind}
use Rattle.token_states.specs.RawTurns.{RawTurns}
use Rattle.html_tokenizer.specs.Advances.{IsRawPlace}
use Rattle.token_states.specs.MarkupSound.{is_begun_section_end}
use Rattle.token_states.specs.SectionTurns.{SectionAdvances, SectionTurns}
use Rattle.token_states.specs.Turns.{Turns}
use Rattle.token_states.specs.declared.place.LexemeState.{LexemeState}
use Rattle.token_states.specs.declared.place.LexemeState.TheVariants.{BogusComment, CdataSection, CharacterReference}
use Rattle.token_states.specs.declared.place.LexemeState.TheVariants.{Comment, Doctype, EndTagOpen}
use Rattle.token_states.specs.declared.place.LexemeState.TheVariants.{MarkupDeclarationOpen, RawText, Tag, TagOpen}
use Rattle.token_states.specs.declared.place.LexemeState.TheVariants.{Text as NoLexeme}
use Rattle.token_states.specs.declared.section_turns.SectionTurn.{SectionTurn}
use Rattle.token_states.specs.declared.section_turns.SectionTurn.TheVariants.{Ends as SectionEnds, Goes as SectionGoes}
use Rattle.token_states.specs.declared.section_turns.SectionTurn.TheVariants.{Shifts as SectionShifts}
use Rattle.token_states.specs.declared.section_turns.SectionTurn.TheVariants.{Text as SectionText}
use Rattle.token_states.specs.declared.turn.RawTurn.{RawTurn}
use Rattle.token_states.specs.declared.turn.Turn.{Turn}

abbrev pub TurnsTo : References → Bool → LexemeState → List ℕ → ℕ → List ℕ → Turn → Type 0
TurnsTo table foreign place held c now turn = (asked : Bool) (mode : Mode) →
    (place ≡ MarkupDeclarationOpen → asked ≡ foreign) → Turns table asked mode place held c turn now

pub turned : (table : References) (foreign : Bool) (place : LexemeState) (held : List ℕ) (c : ℕ) (now : List ℕ) (A : Type 0)
    (done : Option Turn) (turn known : Turn) → MatchOption done A (TurnsTo table foreign place held c now) →
    done ≡ Some turn → turn ≡ known → TurnsTo table foreign place held c now known
turned table foreign place held c now A outcome turn known m d t =
    subst (TurnsTo table foreign place held c now) t
    (subst (λ o. MatchOption o A (TurnsTo table foreign place held c now)) d m)

pub kept : (place : LexemeState) (done : Option Turn) (turn known : Turn) → IfSome done (KeepsKind place) → done ≡ Some turn →
    turn ≡ known → KeepsKind place known
kept place outcome turn known m d t = subst (KeepsKind place) t (subst (λ o. IfSome o (KeepsKind place)) d m)

-- a place in an element's text is one in any
pub raw_place : (kind : TextKind) (raw : RawKind) (place : LexemeState) → IsRawPlace raw place → IsPlaceOf kind place
raw_place kind raw NoLexeme h = tt
raw_place kind raw (CharacterReference p) h = tt
raw_place kind raw (RawText k p) h = tt
raw_place kind raw (Tag t p) h = absurd h
raw_place kind raw TagOpen h = absurd h
raw_place kind raw EndTagOpen h = absurd h
raw_place kind raw MarkupDeclarationOpen h = absurd h
raw_place kind raw BogusComment h = absurd h
raw_place kind raw Comment h = absurd h
raw_place kind raw Doctype h = absurd h
raw_place kind raw CdataSection h = absurd h

abbrev pub some_mode : Mode
some_mode = record { text = Ordinary; last_start_tag = None }

abbrev pub RawTurnsTo : Option (List ℕ) → RawKind → List ℕ → ℕ → List ℕ → RawTurn → Type 0
RawTurnsTo last kind held c now turn = (table : References) (foreign : Bool) (mode : Mode) →
    mode.last_start_tag ≡ last → RawTurns table foreign mode kind held c turn now

abbrev pub mode_with : Option (List ℕ) → Mode
mode_with last = record { text = Ordinary; last_start_tag = last }

abbrev pub some_table : References
some_table = finite.empty

-- a section that goes on
pub section_stays : (mode : Mode) (held : List ℕ) (c : ℕ) (turn : SectionTurn) (place : LexemeState) (now : List ℕ) →
    place ≡ CdataSection → (turn ≡ SectionEnds → ⊥) → SectionTurns mode held c turn now →
    SectionAdvances mode held c turn place now
section_stays mode held c SectionGoes place now p n t = (p, t.0)
section_stays mode held c SectionEnds place now p n t = absurd (n refl)
section_stays mode held c SectionShifts place now p n t = (p, (t.0, t.1))
section_stays mode held c SectionText place now p n t = (p, (t.0, t.1))

pub section_sound : (mode : Mode) (held : List ℕ) (c : ℕ) (turn : SectionTurn) (now : List ℕ) →
    (turn ≡ SectionEnds → ⊥) → IsTrue (is_begun_section_end held) → SectionTurns mode held c turn now →
    IsTrue (is_begun_section_end now)
section_sound mode held c SectionGoes now n h t = t.1
section_sound mode held c SectionEnds now n h t = absurd (n refl)
section_sound mode held c SectionShifts now n h t = subst (λ x. IsTrue (is_begun_section_end x)) (sym t.0) h
section_sound mode held c SectionText now n h t = subst (λ x. IsTrue (is_begun_section_end x)) (sym t.0) h

pub section_ended : (mode : Mode) (held : List ℕ) (c : ℕ) (turn : SectionTurn) (after now : List ℕ) →
    turn ≡ SectionEnds → now ≡ [] → SectionTurns mode held c turn after → SectionAdvances mode held c turn NoLexeme now
section_ended mode held c turn after now e n t =
    subst (λ x. SectionAdvances mode held c x NoLexeme now) (sym e) (
      refl,
      (n, (subst (λ x. SectionTurns mode held c x after) e t).1),
    )
