-- A row of cells beside one another: what it makes of the border above it, its lines, the border below it, and the
-- cells that go on into the next row.
use Rattle.std.specs.Prelude.{◌+◌, ◌-◌, ◌/◌, ◌&&◌, [], ◌∷◌, ◌++◌, if◌then◌else◌, Bool, List, None, Option, Some, drop}
use Rattle.std.specs.Prelude.{false, fold, length, map, max, nat_le, nat_lt, replicate, suc, true, zero, ℕ}
use Rattle.std.specs.Option.{option_map}
use Rattle.text_lines.specs.Tagged.{Item, character, marker, tagged, line_columns}
use Rattle.text_borders.specs.Segments.{with_up, with_down, joins_above, joins_below}
use Rattle.text_borders.specs.Borders.{Border, change_to, columns_where, horizontal, line_above, plain, punched, shown}
use Rattle.text_borders.specs.Borders.{stretched, with_segments}
use Rattle.text_borders.specs.Lines.{BlockLine, text, border}

-- a line of a cell, and whether it has content
pub record CellLine (S : Type 0) : Type 0 where
  pub line : BlockLine S
  pub content : Bool

-- a cell: its columns, the rows that it still takes, this one among them, and its lines
pub record Cell (S : Type 0) : Type 0 where
  pub width : ℕ
  pub rows : ℕ
  pub lines : List (CellLine S)

-- a cell that goes on from the row before, and the column at which it stood there
pub record Hanging (S : Type 0) : Type 0 where
  pub place : ℕ
  pub cell : Cell S

abbrev pub empty_cell : {S : Type 0} → ℕ → Cell S
empty_cell width = record { width = width; rows = 1; lines = [] }

-- A hanging cell stands in place of the first cell that begins at its place or after it; where none does, at the row's
-- end, after an empty cell where a gap is left.
abbrev pub seated_after : {S : Type 0} → ℕ → List (Hanging S) → List (Cell S)
seated_after at [] = []
seated_after at (h ∷ hanging) =
    (if nat_lt at h.place then empty_cell (h.place - at - 1) ∷ h.cell ∷ [] else h.cell ∷ [])
    ++ seated_after (max at h.place + h.cell.width + 1) hanging

abbrev pub seated : {S : Type 0} → ℕ → List (Cell S) → List (Hanging S) → List (Cell S)
seated at [] hanging = seated_after at hanging
seated at (c ∷ cells) [] = c ∷ cells
seated at (c ∷ cells) (h ∷ hanging) =
    if nat_le h.place at then h.cell ∷ seated (at + c.width + 1) cells hanging
    else c ∷ seated (at + c.width + 1) cells (h ∷ hanging)

-- A cell without the borders that are its first and its last line: what fills it where its lines have ended, and the
-- columns at which those borders ask the border above for a join below, and the one below for a join above.
pub record OpenCell (S : Type 0) : Type 0 where
  pub width : ℕ
  pub rows : ℕ
  pub lines : List (CellLine S)
  pub filler : List (Item S)
  pub asks_above : List ℕ
  pub asks_below : List ℕ

abbrev pub spaces : {S : Type 0} → ℕ → S → List (Item S)
spaces n tag = replicate n (character 0x20 tag)

abbrev pub whole : {S : Type 0} → S → Cell S → OpenCell S
whole tag c = record {
  width = c.width;
  rows = c.rows;
  lines = c.lines;
  filler = spaces c.width tag;
  asks_above = [];
  asks_below = [];
}

abbrev pub open_line : {S : Type 0} → BlockLine S → List (CellLine S) → OpenCell S → OpenCell S
open_line (text items) rest c = c
open_line (border b) rest c = record c { lines = rest; asks_above = columns_where joins_below 0 b.segments }

abbrev pub open_first : {S : Type 0} → List (CellLine S) → OpenCell S → OpenCell S
open_first [] c = c
open_first (l ∷ rest) c = open_line l.line rest c

abbrev pub close_line : {S : Type 0} → S → BlockLine S → List (CellLine S) → OpenCell S → OpenCell S
close_line tag (text items) front c = c
close_line tag (border b) front c = record c {
  lines = front;
  filler = tagged (map line_above (stretched c.width b.segments)) tag;
  asks_below = columns_where joins_above 0 b.segments;
}

-- the lines are a front and a last one
abbrev pub close_after : {S : Type 0} → S → List (CellLine S) → CellLine S → List (CellLine S) → OpenCell S
    → OpenCell S
close_after tag front l [] c = close_line tag l.line front c
close_after tag front l (m ∷ rest) c = close_after tag (front ++ l ∷ []) m rest c

abbrev pub close_last : {S : Type 0} → S → List (CellLine S) → OpenCell S → OpenCell S
close_last tag [] c = c
close_last tag (l ∷ rest) c = close_after tag [] l rest c

-- Borders are taken out where cells collapse with their table, the first only where a border is above.
abbrev pub opened : {S : Type 0} → Bool → Bool → S → Cell S → OpenCell S
opened collapse above tag c =
    let first = if collapse && above then open_first c.lines (whole tag c) else whole tag c in
    if collapse then close_last tag first.lines first else first

-- ---- where cells stand

abbrev pub row_width : {S : Type 0} → List (OpenCell S) → ℕ
row_width [] = 0
row_width (c ∷ []) = c.width
row_width (c ∷ d ∷ cells) = c.width + 1 + row_width (d ∷ cells)

-- the columns between cells
abbrev pub signs : {S : Type 0} → ℕ → List (OpenCell S) → List ℕ
signs at [] = []
signs at (c ∷ []) = []
signs at (c ∷ d ∷ cells) = (at + c.width) ∷ signs (at + c.width + 1) (d ∷ cells)

-- columns of cells as columns of the row
abbrev pub of_cells : {S : Type 0} → (OpenCell S → List ℕ) → ℕ → List (OpenCell S) → List ℕ
of_cells columns at [] = []
of_cells columns at (c ∷ cells) = map (λ k. at + k) (columns c) ++ of_cells columns (at + c.width + 1) cells

-- The border above is stretched to the row's width, and joined to what stands below it.
abbrev pub joined_to_row : {S : Type 0} → List (OpenCell S) → Border S → Border S
joined_to_row cells b = with_segments (fold (change_to (option_map with_down)) (stretched (row_width cells) b.segments)
    (signs 0 cells ++ of_cells (λ c. c.asks_above) 0 cells)) b

-- the border below, without holes
abbrev pub border_below : {S : Type 0} → S → List (OpenCell S) → Border S
border_below tag cells = with_segments (fold (change_to (option_map with_up)) (replicate (row_width cells) horizontal)
    (signs 0 cells ++ of_cells (λ c. c.asks_below) 0 cells)) (plain horizontal 0 tag)

-- ---- lines

-- A border that is made text has the tag of the row, and its markers are lost.
abbrev pub retagged : {S : Type 0} → S → List (Item S) → List (Item S)
retagged tag [] = []
retagged tag (character c old ∷ items) = character c tag ∷ retagged tag items
retagged tag (marker name ∷ items) = retagged tag items

abbrev pub as_text : {S : Type 0} → S → BlockLine S → List (Item S)
as_text tag (text items) = items
as_text tag (border b) = retagged tag (shown b)

abbrev pub widened : {S : Type 0} → ℕ → S → BlockLine S → List (Item S)
widened width tag (text items) = items ++ spaces (width - line_columns items) tag
widened width tag (border b) = retagged tag (shown (with_segments (stretched width b.segments) b))

-- the first of the lines, or what fills the cell
abbrev pub line_or : {S : Type 0} → ℕ → S → List (Item S) → List (CellLine S) → List (Item S)
line_or width tag filler [] = filler
line_or width tag filler (l ∷ rest) = widened width tag l.line

abbrev pub cell_items : {S : Type 0} → S → ℕ → OpenCell S → List (Item S)
cell_items tag i c = line_or c.width tag c.filler (drop i c.lines)

-- the cells' lines of one number, with signs between them
abbrev pub row_items : {S : Type 0} → ℕ → S → ℕ → List (OpenCell S) → List (Item S)
row_items sign tag i [] = []
row_items sign tag i (c ∷ []) = cell_items tag i c
row_items sign tag i (c ∷ d ∷ cells) =
    cell_items tag i c ++ (character sign tag ∷ row_items sign tag i (d ∷ cells))

-- the lines that a cell takes of the row: all where it ends there, else its share
abbrev pub cell_height : {S : Type 0} → OpenCell S → ℕ
cell_height c = if nat_le c.rows 1 then length c.lines else length c.lines / c.rows

abbrev pub row_height : {S : Type 0} → List (OpenCell S) → ℕ
row_height cells = fold (λ n c. max n (cell_height c)) 0 cells

abbrev pub row_lines : {S : Type 0} → ℕ → S → List (OpenCell S) → ℕ → ℕ → List (List (Item S))
row_lines sign tag cells i zero = []
row_lines sign tag cells i (suc n) = row_items sign tag i cells ∷ row_lines sign tag cells (i + 1) n

-- ---- what goes on

abbrev pub goes_on : {S : Type 0} → OpenCell S → Bool
goes_on c = nat_lt 1 c.rows

-- The next line of a cell that goes on, or spaces, makes a hole in the border below.
abbrev pub with_holes : {S : Type 0} → S → ℕ → ℕ → List (OpenCell S) → Border S → Border S
with_holes tag height at [] b = b
with_holes tag height at (c ∷ cells) b = with_holes tag height (at + c.width + 1) cells
    (if goes_on c then punched at (line_or c.width tag (spaces c.width tag) (drop height c.lines)) b else b)

-- its further lines go to the next row
abbrev pub further : {S : Type 0} → ℕ → OpenCell S → Cell S
further height c = record { width = c.width; rows = c.rows - 1; lines = drop (height + 1) c.lines }

abbrev pub hanging_of : {S : Type 0} → ℕ → ℕ → List (OpenCell S) → List (Hanging S)
hanging_of height at [] = []
hanging_of height at (c ∷ cells) =
    (if goes_on c then (record { place = at; cell = further height c }) ∷ [] else [])
    ++ hanging_of height (at + c.width + 1) cells

-- ---- the row

pub record Row (S : Type 0) : Type 0 where
  pub above : Option (Border S)
  pub lines : List (List (Item S))
  pub below : Border S
  pub hanging : List (Hanging S)

-- the sign between cells, where borders are drawn and where not
abbrev pub sign_of : Bool → ℕ
sign_of draws = if draws then 0x2502 else 0x20

abbrev pub row_of : {S : Type 0} → Bool → S → Option (Border S) → List (OpenCell S) → Row S
row_of draws tag above cells =
    let height = row_height cells in
    record {
      above = option_map (joined_to_row cells) above;
      lines = row_lines (sign_of draws) tag cells 0 height;
      below = with_holes tag height 0 cells (border_below tag cells);
      hanging = hanging_of height 0 cells;
    }

abbrev pub is_given : {A : Type 0} → Option A → Bool
is_given None = false
is_given (Some x) = true

-- the cells of a row, those that go on from the row before seated among them
abbrev pub row_cells : {S : Type 0} → Bool → S → Option (Border S) → List (Cell S) → List (Hanging S)
    → List (OpenCell S)
row_cells collapse tag above cells hanging = map (opened collapse (is_given above) tag) (seated 0 cells hanging)

abbrev pub width_across : {S : Type 0} → Bool → S → Option (Border S) → List (Cell S) → List (Hanging S) → ℕ
width_across collapse tag above cells hanging = row_width (row_cells collapse tag above cells hanging)

abbrev pub across : {S : Type 0} → Bool → Bool → S → Option (Border S) → List (Cell S) → List (Hanging S) → Row S
across draws collapse tag above cells hanging = row_of draws tag above (row_cells collapse tag above cells hanging)
