-- The lines of a text in each mode of white space.
use Rattle.std.specs.Prelude.{ℕ, Bool, List, if◌then◌else◌}
use Rattle.text_lines.specs.Tagged.{Item}
use Rattle.text_pieces.specs.Sources.{Source}
use Rattle.text_pieces.specs.Modes.{is_preserved, is_wrapped}
use Rattle.text_preserved.specs.Preserved.{preserved_lines, preserved_waiting, is_too_wide as is_wide_source}
use Rattle.text_pieces.specs.declared.white_space.WhiteSpace.{WhiteSpace}
use Rattle.text_normal.specs.Riders.{normal_lines, normal_waiting, has_wide_text}

-- the lines of a text, or of a source line where white space is preserved
abbrev pub lines_in : {S : Type 0} → WhiteSpace → ℕ → List (Source S) → List (List (Item S))
lines_in mode width source =
    if is_preserved mode then preserved_lines width (is_wrapped mode) source else normal_lines width source

-- the names of the markers after its last word, which wait for what comes after it
abbrev pub waiting_in : {S : Type 0} → WhiteSpace → ℕ → List (Source S) → List (List ℕ)
waiting_in mode width source =
    if is_preserved mode then preserved_waiting width (is_wrapped mode) source else normal_waiting width source

-- some character is wider than the width
abbrev pub is_wide_in : {S : Type 0} → WhiteSpace → ℕ → List (Source S) → Bool
is_wide_in mode width source =
    if is_preserved mode then is_wide_source width (is_wrapped mode) source else has_wide_text width source
