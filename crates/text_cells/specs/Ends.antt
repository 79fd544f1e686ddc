-- The first and the last of a block's lines.
use Rattle.std.specs.Prelude.{List, [], ◌∷◌, Option, None, Some, fold}
use Rattle.text_borders.specs.Borders.{Border}
use Rattle.text_borders.specs.Lines.{BlockLine, text, border}
use Rattle.text_borders.specs.Across.{CellLine}

-- a line, where it is a border
abbrev pub border_line : {S : Type 0} → BlockLine S → Option (Border S)
border_line (text items) = None
border_line (border b) = Some b

abbrev pub last_border : {S : Type 0} → List (CellLine S) → Option (Border S)
last_border lines = fold (λ _ l. border_line l.line) None lines

abbrev pub first_border : {S : Type 0} → List (CellLine S) → Option (Border S)
first_border [] = None
first_border (l ∷ rest) = border_line l.line

-- the lines without the first, where it is a border
abbrev pub rest_after : {S : Type 0} → BlockLine S → List (CellLine S) → List (CellLine S) → List (CellLine S)
rest_after (text items) lines rest = lines
rest_after (border b) lines rest = rest

abbrev pub without_first : {S : Type 0} → List (CellLine S) → List (CellLine S)
without_first [] = []
without_first (l ∷ rest) = rest_after l.line (l ∷ rest) rest

-- the lines without the last, where it is a border
abbrev pub without_last : {S : Type 0} → List (CellLine S) → List (CellLine S)
without_last [] = []
without_last (l ∷ []) = rest_after l.line (l ∷ []) []
without_last (l ∷ m ∷ rest) = l ∷ without_last (m ∷ rest)
