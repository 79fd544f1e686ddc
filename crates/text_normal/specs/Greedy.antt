-- Greedy filling: unit by unit, on lines each of which takes what goes on it. That it gives the fullest layouts is a
-- law.
use Rattle.std.specs.Prelude.{ℕ, nat_le, List, [], ◌∷◌, ◌++◌, fold, if◌then◌else◌}
use Rattle.text_normal.specs.Units.{Piece, letters_columns}
use Rattle.text_normal.specs.Layout.{Mark, marked, opens, starts, inside, cuttable, columns}

-- the lines that are done, and the one at hand
pub record Filled (S : Type 0) : Type 0 where
  pub done : List (List (Mark S))
  pub line : List (Mark S)

abbrev pub filled : {S : Type 0} → List (List (Mark S)) → List (Mark S) → Filled S
filled done line = record { done = done; line = line }

-- a line as a list of lines: none where it has no letters
abbrev pub ended : {S : Type 0} → List (Mark S) → List (List (Mark S))
ended [] = []
ended (m ∷ ms) = (m ∷ ms) ∷ []

abbrev pub all_lines : {S : Type 0} → Filled S → List (List (Mark S))
all_lines f = f.done ++ ended f.line

-- letters after those of the line where they go on it, else on a fresh line
abbrev pub add_marks : {S : Type 0} → ℕ → Filled S → List (Mark S) → Filled S
add_marks width f ms = if nat_le (columns (f.line ++ ms)) width then filled f.done (f.line ++ ms) else filled
    (all_lines f) ms

-- a letter of a unit that is cut
abbrev pub add_mark : {S : Type 0} → ℕ → Filled S → Mark S → Filled S
add_mark width f m = add_marks width f (m ∷ [])

-- a unit: where it fits a line it stays whole, else it is cut from a fresh line on
abbrev pub add_unit : {S : Type 0} → ℕ → Filled S → Piece S → Filled S
add_unit width f p =
    if nat_le (letters_columns p.letters) width then add_marks width f (marked (opens p.space) inside p.letters)
    else fold (add_mark width) (filled (all_lines f) []) (marked starts cuttable p.letters)

abbrev pub add_units : {S : Type 0} → ℕ → List (Piece S) → Filled S
add_units width ps = fold (add_unit width) (filled [] []) ps
