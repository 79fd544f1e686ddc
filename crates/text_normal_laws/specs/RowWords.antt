-- Words of worked rows: a text without tags, its units, and its lines; texts with a marker between them.
use Rattle.std.specs.Prelude.{ℕ, List, [], ◌∷◌, ◌++◌, Option, map, codes}
use Rattle.text_lines.specs.Tagged.{Item, character, marker, characters}
use Rattle.text_pieces.specs.Sources.{Source, fragment, sourced}
use Rattle.text_normal.specs.Units.{Letter, Piece, lettered, piece, units}
use Rattle.text_normal.specs.Layout.{marks_items}
use Rattle.text_normal.specs.Greedy.{add_units, all_lines}
use Rattle.text_normal.specs.Riders.{normal_lines, normal_waiting}

abbrev pub untagged : List ℕ → List (Letter (Unit {0}))
untagged cs = lettered cs (tt {0})

abbrev pub unit : Option (Unit {0}) → List ℕ → Piece (Unit {0})
unit space cs = piece space (untagged cs)

abbrev pub units_of : List ℕ → List (Piece (Unit {0}))
units_of cs = units (untagged cs)

-- what stands on the lines, filled unit by unit
abbrev pub lines_of : ℕ → List ℕ → List (List ℕ)
lines_of width cs = map (λ line. characters (marks_items line)) (all_lines (add_units width (units_of cs)))

-- a line's characters, and `#` and its name for each marker
abbrev pub shown_codes : List (Item (Unit {0})) → List ℕ
shown_codes [] = []
shown_codes (character c tag ∷ items) = c ∷ shown_codes items
shown_codes (marker name ∷ items) = 0x23 ∷ (name ++ shown_codes items)

-- two texts with the marker `n` between them
abbrev pub marked_source : List ℕ → List ℕ → List (Source (Unit {0}))
marked_source front back = sourced front (tt {0}) (tt {0}) ++ fragment (codes "n") ∷ sourced back (tt {0}) (tt {0})

abbrev pub marked_lines : ℕ → List ℕ → List ℕ → List (List ℕ)
marked_lines width front back = map shown_codes (normal_lines width (marked_source front back))

abbrev pub marked_waiting : ℕ → List ℕ → List ℕ → List (List ℕ)
marked_waiting width front back = normal_waiting width (marked_source front back)
