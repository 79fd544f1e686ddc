-- What a mode makes of a mark: what is done, whether something is asked of the tokenizer, and whether the mark is then
-- taken by the mode that stands ("reprocess the token").
use Rattle.std.specs.Prelude.{ℕ, Bool, false, true, ◌||◌, ◌==◌, List, [], ◌∷◌, ◌++◌}
use Rattle.html_lexemes.specs.declared.states.RawKind.{RawKind}
use Rattle.rules_table.specs.Actions.{Action, foster, keep_pending, say}
use Rattle.rules_table.specs.State.{Ask, raw}

pub data Row : Type 0 where
  done : List Action → Row
  asks : Ask → List Action → Row
  again : List Action → Row

-- "Ignore the token."
abbrev pub ignored : Row
ignored = done []

-- "Stop parsing": nothing is emitted after the end.
abbrev pub stopped : Row
stopped = done []

-- an element whose text follows (13.2.6.2): its insertion, after which the mode is "text"
abbrev pub reads_raw : RawKind → List Action → Row
reads_raw kind actions = asks (raw kind) actions

-- actions before those of a row
abbrev pub after : List Action → Row → Row
after first (done actions) = done (first ++ actions)
after first (asks ask actions) = asks ask (first ++ actions)
after first (again actions) = again (first ++ actions)

-- "with foster parenting enabled" (13.2.6.4.9, anything else)
abbrev pub between_fosters : List Action → List Action
between_fosters actions = foster true ∷ actions ++ foster false ∷ []

abbrev pub fostered : Row → Row
fostered (done actions) = done (between_fosters actions)
fostered (asks ask actions) = asks ask (between_fosters actions)
fostered (again actions) = again (between_fosters actions)

-- What a mode makes of a character: it is ignored, said after some actions, kept with the pending ones, or taken by
-- the mode that stands after some actions.
pub data TextRow : Type 0 where
  dropped : TextRow
  said_after : List Action → TextRow
  kept : TextRow
  then_again : List Action → TextRow

abbrev pub for_character : ℕ → TextRow → Row
for_character c dropped = ignored
for_character c (said_after actions) = done (actions ++ say (c ∷ []) ∷ [])
for_character c kept = done (keep_pending c ∷ [])
for_character c (then_again actions) = again actions

-- NUL is taken as other text is, but is itself neither inserted nor kept
abbrev pub for_null : TextRow → Row
for_null dropped = ignored
for_null (said_after actions) = ignored
for_null kept = ignored
for_null (then_again actions) = again actions

-- TAB, LF, FF, CR and SPACE
abbrev pub is_white_space : ℕ → Bool
is_white_space c = c == 9 || (c == 10 || (c == 12 || (c == 13 || c == 32)))
