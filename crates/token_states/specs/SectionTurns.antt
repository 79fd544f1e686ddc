-- What a further character does in a CDATA section (WHATWG HTML, 13.2.5.69 to 13.2.5.71).
use Rattle.std.specs.Prelude.{◌≡◌, ℕ, List, [], ◌∷◌, ◌++◌, map, codes, IsTrue}
use Rattle.token_grammar.specs.Items.{Item, characters}
use Rattle.token_grammar.specs.Lexemes.{Lexeme, cdata_lexeme, nothing, ordinary_item, tagged, emitted}
use Rattle.token_grammar.specs.Slices.{after, cut, cut_or_all}
use Rattle.token_grammar.specs.declared.modes.Mode.{Mode}
use Rattle.token_states.specs.MarkupSound.{is_begun_section_end}
use Rattle.token_states.specs.declared.place.LexemeState.{LexemeState}
use Rattle.token_states.specs.declared.place.LexemeState.TheVariants.{CdataSection, Text as NoLexeme}
use Rattle.token_states.specs.declared.section_turns.SectionTurn.{SectionTurn}
use Rattle.token_states.specs.declared.section_turns.SectionTurn.TheVariants.{Goes, Ends, Shifts, Text}

-- what is left of a section, and of what follows it
abbrev pub section_lexeme : Mode → List ℕ → Lexeme
section_lexeme mode cs = cdata_lexeme mode (cut_or_all (cut (after (codes "]]>")) cs) cs)

-- a lexeme with other items in front
abbrev pub with_items : List Item → Lexeme → Lexeme
with_items items nothing = nothing
with_items items (emitted others trailing rest) = emitted (items ++ others) trailing rest
with_items items (tagged t rest) = tagged t rest

abbrev pub SectionTurns : Mode → List ℕ → ℕ → SectionTurn → List ℕ → Type 0
SectionTurns mode held c Goes now = (now ≡ held ++ c ∷ []) × IsTrue (is_begun_section_end now)
SectionTurns mode held c Ends now =
    (now ≡ held) × ((rest : List ℕ) → section_lexeme mode (held ++ c ∷ rest) ≡ emitted [] mode rest)
SectionTurns mode held c Shifts now = (now ≡ held)
    × ((rest : List ℕ) → section_lexeme mode (held ++ c ∷ rest)
    ≡ with_items (characters (93 ∷ []) ∷ []) (section_lexeme mode (held ++ rest)))
SectionTurns mode held c Text now =
    (now ≡ held)
    × ((rest : List ℕ) → section_lexeme mode (held ++ c ∷ rest)
    ≡ with_items (map ordinary_item (held ++ c ∷ [])) (section_lexeme mode rest))

-- the same of what is pending
abbrev pub SectionAdvances : Mode → List ℕ → ℕ → SectionTurn → LexemeState → List ℕ → Type 0
SectionAdvances mode held c Goes at now = (at ≡ CdataSection) × (now ≡ held ++ c ∷ [])
SectionAdvances mode held c Ends at now = (at ≡ NoLexeme)
    × ((now ≡ []) × ((rest : List ℕ) → section_lexeme mode (held ++ c ∷ rest) ≡ emitted [] mode rest))
SectionAdvances mode held c Shifts at now =
    (at ≡ CdataSection)
    × ((now ≡ held) × ((rest : List ℕ) → section_lexeme mode (held ++ c ∷ rest)
    ≡ with_items (characters (93 ∷ []) ∷ []) (section_lexeme mode (held ++ rest))))
SectionAdvances mode held c Text at now =
    (at ≡ CdataSection)
    × ((now ≡ held) × ((rest : List ℕ) → section_lexeme mode (held ++ c ∷ rest)
    ≡ with_items (map ordinary_item (held ++ c ∷ [])) (section_lexeme mode rest)))
