-- What becomes of a further character of a lexeme that is not over.
use Rattle.std.specs.Prelude.{◌≡◌, ℕ, Bool, List, [], ◌∷◌, ◌++◌, chars, string_bytes}
use Rattle.lex_base.specs.References.{References}
use Rattle.html_lexemes.specs.declared.states.RawKind.{RawKind}
use Rattle.token_grammar.specs.declared.modes.Mode.{Mode}
use Rattle.token_grammar.specs.declared.modes.TextKind.{TextKind}
use Rattle.token_states.specs.Goings.{IsGoing}
use Rattle.token_states.specs.PlaceKinds.{IsPlaceOf}
use Rattle.token_states.specs.RawTurns.{IsEndTag, IsShifted, IsTextBefore}
use Rattle.token_states.specs.Places.{place_lexeme}
use Rattle.token_states.specs.Turns.{IsOver, IsTaken, IsUntagged}
use Rattle.html_lexemes.specs.declared.token.TagKind.TheVariants.{EndTag as EndTagKind}
use Rattle.html_tokenizer.specs.declared.pending.Advance.{Advance}
use Rattle.html_tokenizer.specs.declared.pending.Advance.TheVariants.{Goes, Ends, EndsBefore}
use Rattle.html_tokenizer.specs.declared.pending.RawAdvance.{RawAdvance}
use Rattle.html_tokenizer.specs.declared.pending.RawAdvance.TheVariants.{Goes as RawGoes, Before, Shifts, EndTag}
use Rattle.token_states.specs.declared.place.LexemeState.{LexemeState}
use Rattle.token_states.specs.declared.place.LexemeState.TheVariants.{Text, Tag, RawText}
use Rattle.token_states.specs.declared.place.TagPlace.TheVariants.{TagName}

-- a lexeme that is over is no longer pending
abbrev pub IsLeft : Advance → LexemeState → Type 0
IsLeft Goes at = Unit {0}
IsLeft (Ends last text) at = at ≡ Text
IsLeft (EndsBefore last text) at = at ≡ Text

abbrev pub Advances : References → Bool → Mode → LexemeState → List ℕ → ℕ → Advance → LexemeState → List ℕ → Type 0
Advances table foreign mode place held c Goes at now =
    IsTaken table foreign mode place held c at now × IsGoing table mode.last_start_tag at now
Advances table foreign mode place held c (Ends last text) at now =
    IsTaken table foreign mode place held c last (chars (string_bytes text))
    × IsOver table foreign mode last (chars (string_bytes text)) []
Advances table foreign mode place held c (EndsBefore last text) at now =
    (last ≡ place)
    × ((chars (string_bytes text) ≡ held) × (IsOver table foreign mode place held (c ∷ [])
    × IsUntagged (place_lexeme table foreign mode place held)))

-- a place in an element's text of a kind
abbrev pub IsRawPlace : RawKind → LexemeState → Type 0
IsRawPlace kind (RawText k place) = k ≡ kind
IsRawPlace kind _ = ⊥

-- the same in the text of an element, where the last start tag is that of the mode
abbrev pub RawAdvances : References → Bool → Mode → RawKind → List ℕ → ℕ → RawAdvance → LexemeState → List ℕ → Type 0
RawAdvances table foreign mode kind held c RawGoes at now =
    (now ≡ held ++ c ∷ []) × (IsRawPlace kind at × IsGoing table mode.last_start_tag at now)
RawAdvances table foreign mode kind held c (Before text trailing) at now =
    (at ≡ Text) × ((now ≡ []) × ((chars (string_bytes text) ≡ held) × IsTextBefore table mode kind held trailing c))
RawAdvances table foreign mode kind held c (Shifts text trailing) at now =
    IsShifted table mode kind (held ++ c ∷ []) (chars text.now) trailing now
    × (IsRawPlace trailing at × IsGoing table mode.last_start_tag at now)
RawAdvances table foreign mode kind held c EndTag at now =
    IsEndTag table foreign mode kind held c now × (at ≡ Tag EndTagKind TagName)

-- what a further character leads to is in text of a kind
abbrev pub IsWithinKind : TextKind → Advance → LexemeState → Type 0
IsWithinKind kind Goes at = IsPlaceOf kind at
IsWithinKind kind (Ends last text) at = IsPlaceOf kind last
IsWithinKind kind (EndsBefore last text) at = IsPlaceOf kind last

-- where the place before it was
abbrev pub StaysWithinKind : LexemeState → Advance → LexemeState → Type 0
StaysWithinKind place advance at = (kind : TextKind) → IsPlaceOf kind place → IsWithinKind kind advance at
