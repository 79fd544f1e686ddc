-- How the code reads normal text letter by letter, and fills lines as it does. No promise to callers speaks of it.
use Rattle.std.specs.Prelude.{ℕ, List, [], ◌∷◌, ◌++◌, Option, None, fold, is_some, if◌then◌else◌}
use Rattle.text_lines.specs.Columns.{columns_of}
use Rattle.text_normal.specs.Units.{Letter, piece, has_columns, is_break_point, space_of, first_of}
use Rattle.text_pieces.specs.Sources.{is_filled}
use Rattle.text_normal.specs.Layout.{Mark}
use Rattle.text_normal.specs.Greedy.{Filled, filled, all_lines, add_unit}

-- What was read: the lines filled so far, and the piece at hand with the first white space in front of it.
pub record Reading (S : Type 0) : Type 0 where
  pub lines : Filled S
  pub space : Option S
  pub letters : List (Letter S)

abbrev pub reading : {S : Type 0} → Filled S → Option S → List (Letter S) → Reading S
reading lines space letters = record { lines = lines; space = space; letters = letters }

abbrev pub read_letter : {S : Type 0} → ℕ → Reading S → Letter S → Reading S
read_letter width r l =
    if is_break_point l.code
    then (if has_columns r.letters then reading (add_unit width r.lines (piece r.space r.letters)) (space_of l) []
    else reading r.lines (first_of r.space (space_of l)) r.letters)
    else reading r.lines r.space (if is_some (columns_of l.code) then r.letters ++ l ∷ [] else r.letters)

abbrev pub read_letters : {S : Type 0} → ℕ → Reading S → List (Letter S) → Reading S
read_letters width r ls = fold (read_letter width) r ls

abbrev pub nothing_read : {S : Type 0} → Reading S
nothing_read = reading (filled [] []) None []

-- the lines after the last piece
abbrev pub last_filled : {S : Type 0} → ℕ → Reading S → Filled S
last_filled width r = if is_filled r.letters then add_unit width r.lines (piece r.space r.letters) else r.lines

abbrev pub lines_read : {S : Type 0} → ℕ → Reading S → List (List (Mark S))
lines_read width r = all_lines (last_filled width r)
