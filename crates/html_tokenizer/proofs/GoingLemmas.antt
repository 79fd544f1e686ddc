-- What is held of a lexeme that goes on.
use Rattle.std.proofs.Common.{◌≡◌, ◌≢◌, ◌==◌, ◌&&◌, [], ◌∷◌, Bool, IsTrue, List, None, Option, Some, false, length}
use Rattle.std.proofs.Common.{refl, subst, sym, true, ℕ}
use Rattle.std.proofs.lemmas.Bool.{and_parts, eqb-true}
use Rattle.std.proofs.lemmas.List.{nil_from_length}
use Rattle.lex_base.specs.References.{References}
use Rattle.html_lexemes.specs.declared.states.RawKind.{RawKind}
use Rattle.token_states.specs.Goings.{IsGoing, is_raw_going, may_begin}
use Rattle.token_states.specs.RawSound.{is_raw_held}
use Rattle.token_states.specs.Sound.{IsSound}
use Rattle.token_grammar.specs.declared.modes.Mode.{Mode}
use Rattle.token_states.specs.SectionTurns.{SectionAdvances}
use Rattle.token_grammar.specs.Lexemes.{markup, reference_lexeme}
use Rattle.token_grammar.specs.References.{Found, reference}
use Rattle.token_states.specs.PlaceKinds.{IsWithinMarkup, is_of_text, is_open}
use Rattle.token_states.specs.Places.{place_lexeme}
use Rattle.token_states.specs.Turns.{EndsBeforeAt, IsOver, IsUntagged}
use Rattle.token_states.specs.declared.place.LexemeState.{LexemeState}
use Rattle.token_states.specs.declared.place.LexemeState.TheVariants.{BogusComment, CdataSection, CharacterReference}
use Rattle.token_states.specs.declared.place.LexemeState.TheVariants.{Comment, Doctype, EndTagOpen}
use Rattle.token_states.specs.declared.place.LexemeState.TheVariants.{MarkupDeclarationOpen, RawText, Tag, TagOpen}
use Rattle.token_states.specs.declared.place.LexemeState.TheVariants.{Text as NoLexeme}
use Rattle.token_states.specs.declared.section_turns.SectionTurn.{SectionTurn}
use Rattle.token_states.specs.declared.section_turns.SectionTurn.TheVariants.{Goes, Ends, Shifts, Text}
use Rattle.token_states.specs.declared.place.RawPlace.{RawPlace}
use Rattle.token_states.specs.declared.place.RawPlace.TheVariants.{Dashes, EndTagName, EscapeStart, EscapeWord}
use Rattle.token_states.specs.declared.place.RawPlace.TheVariants.{LessThanSign}

pub raw_going_held : (last : Option (List ℕ)) (kind : RawKind) (place : RawPlace) (held : List ℕ) →
    IsTrue (is_raw_going last kind place held) → IsTrue (is_raw_held kind place held)
raw_going_held last kind LessThanSign held h =
    (and_parts (is_raw_held kind LessThanSign held) (may_begin last kind) h).0
raw_going_held last kind EndTagName held h = (and_parts (is_raw_held kind EndTagName held) _ h).0
raw_going_held last kind EscapeStart held h = h
raw_going_held last kind EscapeWord held h = h
raw_going_held last kind Dashes held h = h

-- it is sound
pub going_sound : (table : References) (last : Option (List ℕ)) (place : LexemeState) (held : List ℕ) →
    IsGoing table last place held → IsSound place held
going_sound table last NoLexeme held h = h
going_sound table last (CharacterReference place) held h = h.0
going_sound table last TagOpen held h = h
going_sound table last EndTagOpen held h = h
going_sound table last (Tag kind place) held h = h
going_sound table last MarkupDeclarationOpen held h = h
going_sound table last BogusComment held h = h
going_sound table last Comment held h = h
going_sound table last Doctype held h = h
going_sound table last CdataSection held h = h
going_sound table last (RawText kind place) held h = raw_going_held last kind place held h

-- at a place in an element's text
pub raw_going : (table : References) (last : Option (List ℕ)) (kind : RawKind) (place : RawPlace) (at : LexemeState)
    (held : List ℕ) → at ≡ RawText kind place → IsGoing table last at held → IsTrue (is_raw_going last kind place held)
raw_going table last kind place at held e h = subst (λ x. IsGoing table last x held) e h

-- nothing is held before a lexeme
pub none_going : (table : References) (last : Option (List ℕ)) (at : LexemeState) (held : List ℕ) → at ≡ NoLexeme →
    held ≡ [] → IsGoing table last at held
none_going table last at held e n = subst (λ x. IsGoing table last x held) (sym e) n

-- of a section, which goes on or is over
in_section : (table : References) (last : Option (List ℕ)) (at : LexemeState) (now : List ℕ) → at ≡ CdataSection →
    IsSound at now → IsGoing table last at now
in_section table last at now e sound =
    subst (λ x. IsGoing table last x now) (sym e) (subst (λ x. IsSound x now) e sound)

pub section_going : (table : References) (last : Option (List ℕ)) (mode : Mode) (held : List ℕ) (c : ℕ)
    (turn : SectionTurn) (at : LexemeState) (now : List ℕ) → SectionAdvances mode held c turn at now → IsSound at now →
    IsGoing table last at now
section_going table last mode held c Goes at now a sound = in_section table last at now a.0 sound
section_going table last mode held c Ends at now a sound = none_going table last at now a.0 a.1.0
section_going table last mode held c Shifts at now a sound = in_section table last at now a.0 sound
section_going table last mode held c Text at now a sound = in_section table last at now a.0 sound

-- of what was opened
pub opened_going : (table : References) (last : Option (List ℕ)) (place at : LexemeState) (held : List ℕ) →
    IsGoing table last place [] → at ≡ place → held ≡ [] → IsGoing table last at held
opened_going table last place at held h e n =
    subst (λ x. IsGoing table last x held) (sym e) (subst (IsGoing table last place) (sym n) h)

-- a place that is neither in text nor in the text of an element
pub within_markup : (at : LexemeState) → at ≢ NoLexeme → ((kind : RawKind) (place : RawPlace) → at ≡ RawText kind place → ⊥) →
    IsWithinMarkup at
within_markup NoLexeme n r = n refl
within_markup (CharacterReference place) n r = tt
within_markup TagOpen n r = tt
within_markup EndTagOpen n r = tt
within_markup (Tag kind place) n r = tt
within_markup MarkupDeclarationOpen n r = tt
within_markup BogusComment n r = tt
within_markup Comment n r = tt
within_markup Doctype n r = tt
within_markup CdataSection n r = tt
within_markup (RawText kind place) n r = r kind place refl

-- what was over before a character is no tag
pub ended_untagged : (table : References) (foreign : Bool) (mode : Mode) (place : LexemeState) (held : List ℕ) (c : ℕ)
    (now : List ℕ) → IsSound place held → EndsBeforeAt table foreign mode place held c now →
    IsUntagged (place_lexeme table foreign mode place held)
ended_untagged table foreign mode (CharacterReference place) held c now sound e = by (reference table held)
  where
    by : (found : Option Found) → IsUntagged (reference_lexeme mode held found)
    by None = tt
    by (Some found) = tt
ended_untagged table foreign mode TagOpen held c now sound e =
    subst (λ x. IsUntagged (markup table foreign mode x)) (sym sound) tt
ended_untagged table foreign mode NoLexeme held c now sound e = absurd e
ended_untagged table foreign mode EndTagOpen held c now sound e = absurd e
ended_untagged table foreign mode (Tag kind at) held c now sound e = absurd e
ended_untagged table foreign mode MarkupDeclarationOpen held c now sound e = absurd e
ended_untagged table foreign mode BogusComment held c now sound e = absurd e
ended_untagged table foreign mode Comment held c now sound e = absurd e
ended_untagged table foreign mode Doctype held c now sound e = absurd e
ended_untagged table foreign mode CdataSection held c now sound e = absurd e
ended_untagged table foreign mode (RawText kind at) held c now sound e = absurd e

-- and is as it was said
pub ended_before : (table : References) (foreign : Bool) (mode : Mode) (place : LexemeState) (held : List ℕ) (c : ℕ)
    (now : List ℕ) → EndsBeforeAt table foreign mode place held c now → (now ≡ held)
    × IsOver table foreign mode place held (c ∷ [])
ended_before table foreign mode (CharacterReference place) held c now e = e
ended_before table foreign mode TagOpen held c now e = e
ended_before table foreign mode NoLexeme held c now e = absurd e
ended_before table foreign mode EndTagOpen held c now e = absurd e
ended_before table foreign mode (Tag kind at) held c now e = absurd e
ended_before table foreign mode MarkupDeclarationOpen held c now e = absurd e
ended_before table foreign mode BogusComment held c now e = absurd e
ended_before table foreign mode Comment held c now e = absurd e
ended_before table foreign mode Doctype held c now e = absurd e
ended_before table foreign mode CdataSection held c now e = absurd e
ended_before table foreign mode (RawText kind at) held c now e = absurd e

-- ---- nothing is pending

open_parts : (place : LexemeState) (held run : List ℕ) → (is_open place && length held == 0 && length run == 0) ≡ true →
    (is_open place ≡ true) × (run ≡ [])
open_parts place held run h =
    let parts = and_parts (is_open place && length held == 0) (length run == 0) h in
    ((and_parts (is_open place) (length held == 0) parts.0).0, nil_from_length run (eqb-true (length run) 0 parts.1))

pub no_run : (place : LexemeState) (held run : List ℕ) → (is_open place && length held == 0 && length run == 0) ≡ true →
    run ≡ []
no_run place held run h = (open_parts place held run h).1

only_text : (place : LexemeState) → is_of_text place ≡ true → is_open place ≡ true → place ≡ NoLexeme
only_text NoLexeme t o = refl
only_text (CharacterReference place) t o = absurd (let k : false ≡ true = o in cc)
only_text TagOpen t o = absurd (let k : false ≡ true = o in cc)
only_text EndTagOpen t o = absurd (let k : false ≡ true = o in cc)
only_text (Tag kind place) t o = absurd (let k : false ≡ true = o in cc)
only_text MarkupDeclarationOpen t o = absurd (let k : false ≡ true = o in cc)
only_text BogusComment t o = absurd (let k : false ≡ true = o in cc)
only_text Comment t o = absurd (let k : false ≡ true = o in cc)
only_text Doctype t o = absurd (let k : false ≡ true = o in cc)
only_text CdataSection t o = absurd (let k : false ≡ true = t in cc)
only_text (RawText kind place) t o = absurd (let k : false ≡ true = o in cc)

pub text_open : (place : LexemeState) (held run : List ℕ) → is_of_text place ≡ true →
    (is_open place && length held == 0 && length run == 0) ≡ true → place ≡ NoLexeme
text_open place held run t h = only_text place t (open_parts place held run h).0
