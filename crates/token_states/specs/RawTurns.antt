-- What a further character does to what is held of the text of an element.
use Rattle.std.specs.Prelude.{◌≡◌, ℕ, Bool, List, [], ◌∷◌, ◌++◌, IsTrue, chars}
use Rattle.lex_base.specs.References.{References}
use Rattle.html_lexemes.specs.declared.states.RawKind.{RawKind}
use Rattle.html_lexemes.specs.declared.token.TagKind.TheVariants.{EndTag as EndTagKind}
use Rattle.token_grammar.specs.Items.{characters}
use Rattle.token_grammar.specs.Lexemes.{in_kind, lexeme, tag_lexeme, emitted}
use Rattle.token_grammar.specs.Tags.{tag_at}
use Rattle.token_grammar.specs.declared.modes.Mode.{Mode}
use Rattle.token_states.specs.Goings.{is_raw_going}
use Rattle.token_states.specs.TagPlaces.{IsInTag}
use Rattle.token_states.specs.declared.place.TagPlace.TheVariants.{TagName}
use Rattle.token_states.specs.declared.turn.RawTurn.{RawTurn}
use Rattle.token_states.specs.declared.turn.RawTurn.TheVariants.{Goes, Before, Shifts, EndTag}

-- The characters are text, each by itself, before what follows them, and leave a mode.
abbrev pub IsText : References → Mode → List ℕ → Mode → List ℕ → Type 0
IsText table mode [] trailing cs = mode ≡ trailing
IsText table mode (c ∷ text) trailing cs =
    (next : Mode) × ((foreign : Bool) → lexeme table foreign mode (c ∷ (text ++ cs))
    ≡ emitted (characters (c ∷ []) ∷ []) next (text ++ cs)) × IsText table next text trailing cs

-- what is held is text before a character and any rest
abbrev pub IsTextBefore : References → Mode → RawKind → List ℕ → RawKind → ℕ → Type 0
IsTextBefore table mode kind held trailing c = (rest : List ℕ) →
    IsText table (in_kind mode kind) held (in_kind mode trailing) (c ∷ rest)

-- a front of what is held is text, before what is held then and any rest
pub record IsShifted (table : References) (mode : Mode) (kind : RawKind) (held text : List ℕ) (trailing : RawKind)
    (now : List ℕ) : Type 0 where
  pub parts : held ≡ text ++ now
  pub is_text : (rest : List ℕ) → IsText table (in_kind mode kind) text (in_kind mode trailing) (now ++ rest)

-- what is held is `</` and the last start tag's name, before a character that ends it
pub record IsEndTag (table : References) (foreign : Bool) (mode : Mode) (kind : RawKind) (held : List ℕ) (c : ℕ)
    (now : List ℕ) : Type 0 where
  pub is_tag : (rest : List ℕ) → lexeme table foreign (in_kind mode kind) (held ++ c ∷ rest)
      ≡ tag_lexeme (tag_at table EndTagKind (now ++ c ∷ rest))
  pub in_name : IsInTag EndTagKind TagName now

abbrev pub RawTurns : References → Bool → Mode → RawKind → List ℕ → ℕ → RawTurn → List ℕ → Type 0
RawTurns table foreign mode kind held c (Goes at) now =
    (now ≡ held ++ c ∷ []) × IsTrue (is_raw_going mode.last_start_tag kind at now)
RawTurns table foreign mode kind held c (Before trailing) now = (now ≡ held) × IsTextBefore table mode kind held trailing c
RawTurns table foreign mode kind held c (Shifts text trailing at) now =
    IsShifted table mode kind (held ++ c ∷ []) (chars text.now) trailing now
    × IsTrue (is_raw_going mode.last_start_tag trailing at now)
RawTurns table foreign mode kind held c EndTag now = IsEndTag table foreign mode kind held c now
