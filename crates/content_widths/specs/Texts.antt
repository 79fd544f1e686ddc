-- The columns that a text asks for (CSS Sizing 3, 5.1, min-content and max-content contributions of text): those
-- without which something must be cut that stands together, and those with which no line is wrapped.
use Rattle.std.specs.Prelude.{ℕ, ◌+◌, ◌-◌, ◌%◌, ◌&&◌, ◌==◌, [], ◌∷◌, Bool, List, if◌then◌else◌, is_some, max, not}
use Rattle.text_lines.specs.Columns.{columns_of, width_of}
use Rattle.text_normal.specs.Units.{Piece, letters_columns, lettered, units}
use Rattle.text_pieces.specs.Modes.{is_preserved}
use Rattle.text_pieces.specs.Sources.{is_break_point}
use Rattle.text_pieces.specs.declared.white_space.WhiteSpace.{WhiteSpace}

-- ---- what stands together

-- the columns of what stands before the first break point
abbrev pub front_columns : List ℕ → ℕ
front_columns [] = 0
front_columns (c ∷ cs) = if is_break_point c then 0 else width_of c + front_columns cs

-- the greatest columns of characters that stand together, with no break point among them
abbrev pub narrowest_of : List ℕ → ℕ
narrowest_of [] = 0
narrowest_of (c ∷ cs) = max (front_columns (c ∷ cs)) (narrowest_of cs)

-- ---- normal text on one line: its units, with the gaps between them

abbrev pub gap_columns : {S : Type 0} → Piece S → ℕ
gap_columns p = if is_some p.space then 1 else 0

abbrev pub further_columns : {S : Type 0} → List (Piece S) → ℕ
further_columns [] = 0
further_columns (p ∷ ps) = gap_columns p + letters_columns p.letters + further_columns ps

abbrev pub units_columns : {S : Type 0} → List (Piece S) → ℕ
units_columns [] = 0
units_columns (p ∷ ps) = letters_columns p.letters + further_columns ps

-- ---- text whose white space stays: its source lines, each on one line

-- a character that is shown: it has a width, and is neither white space nor U+200B
abbrev pub is_shown : ℕ → Bool
is_shown c = not (is_break_point c) && is_some (columns_of c)

-- the column after a character at a column: a tab goes to the next multiple of 8
abbrev pub column_after : ℕ → ℕ → ℕ
column_after at c = if c == 0x9 then at + (8 - at % 8) else at + width_of c

-- The greatest column at which a shown character ends: white space that ends a source line is dropped. LF ends a line.
abbrev pub lines_columns : (at : ℕ) → List ℕ → ℕ
lines_columns at [] = 0
lines_columns at (c ∷ cs) = if c == 0xA then lines_columns 0 cs
    else max (if is_shown c then column_after at c else 0) (lines_columns (column_after at c) cs)

-- ----

abbrev pub widest_of : WhiteSpace → List ℕ → ℕ
widest_of mode cs = if is_preserved mode then lines_columns 0 cs else units_columns (units (lettered cs (tt {0})))
