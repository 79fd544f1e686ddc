-- What the first character of a lexeme is.
use Rattle.std.specs.Prelude.{◌≡◌, ℕ, Bool, List, [], ◌∷◌, Option, IsTrue}
use Rattle.std.specs.Char.{IsScalar}
use Rattle.lex_base.specs.References.{References}
use Rattle.token_grammar.specs.Items.{Item, characters, null_character}
use Rattle.token_grammar.specs.Lexemes.{lexeme, emitted}
use Rattle.token_grammar.specs.declared.modes.Mode.{Mode}
use Rattle.token_grammar.specs.declared.modes.TextKind.{TextKind}
use Rattle.token_grammar.specs.declared.modes.TextKind.TheVariants.{Raw}
use Rattle.token_states.specs.Places.{place_lexeme}
use Rattle.token_states.specs.Goings.{IsGoing, is_raw_going}
use Rattle.token_states.specs.declared.first.First.{First}
use Rattle.token_states.specs.declared.first.First.TheVariants.{Text, Null, Opens, OpensRaw}
use Rattle.token_states.specs.declared.place.LexemeState.{LexemeState}

-- whatever follows, the character is this item in text of a kind
abbrev pub IsItem : Option (List ℕ) → TextKind → ℕ → Item → Type 0
IsItem last text c item =
    (table : References) (foreign : Bool) (mode : Mode) (rest : List ℕ) → mode.text ≡ text →
    mode.last_start_tag ≡ last → lexeme table foreign mode (c ∷ rest) ≡ emitted (item ∷ []) mode rest

-- whatever follows, the character opens what stands at a place
abbrev pub IsOpening : TextKind → ℕ → LexemeState → Type 0
IsOpening text c place = (table : References) (foreign : Bool) (mode : Mode) (rest : List ℕ) → mode.text ≡ text →
    lexeme table foreign mode (c ∷ rest) ≡ place_lexeme table foreign mode place rest

-- the same where the last start tag has this name
abbrev pub IsFirst : Option (List ℕ) → TextKind → ℕ → First → Type 0
IsFirst last text c (Text d) = IsScalar d × IsItem last text c (characters (d ∷ []))
IsFirst last text c Null = IsItem last text c null_character
IsFirst last text c (Opens place) = IsOpening text c place × ((table : References) → IsGoing table last place [])
IsFirst last text c (OpensRaw kind place) = (text ≡ Raw kind) × IsTrue (is_raw_going last kind place (c ∷ []))
