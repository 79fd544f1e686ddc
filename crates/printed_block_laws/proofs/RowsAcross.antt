-- A row of cells that hold no control character makes lines, borders and cells that go on without one.
use Rattle.std.proofs.Common.{◌-◌, ◌+◌, [], ◌∷◌, ◌++◌, if◌then◌else◌, All, Bool, IfSome, List, None, Option, Some}
use Rattle.std.proofs.Common.{drop, false, map, refl, suc, true, zero, ℕ}
use Rattle.std.specs.Prelude.{max, nat_le, nat_lt}
use Rattle.std.specs.Option.{option_map}
use Rattle.std.proofs.lemmas.List.Elements.{All-cons, All-drop, All-head, All-nil, All-push, All-tail}
use Rattle.text_lines.specs.Tagged.{Item, character}
use Rattle.text_borders.specs.Borders.{Border, Hole, punched, stretched}
use Rattle.text_borders.specs.Lines.{BlockLine, border, text}
use Rattle.text_borders.specs.Across.{Cell, CellLine, Hanging, OpenCell, Row, across, border_below, cell_items}
use Rattle.text_borders.specs.Across.{close_after, close_last, close_line, empty_cell, further, goes_on, hanging_of}
use Rattle.text_borders.specs.Across.{is_given, joined_to_row, line_or, open_first, open_line, opened, row_cells}
use Rattle.text_borders.specs.Across.{row_height, row_items, row_lines, seated, seated_after, sign_of, spaces, whole}
use Rattle.text_borders.specs.Across.{with_holes}
use Rattle.printed_block_laws.specs.Printed.{ArePrinted, IsPrinted, IsPrintedCell, IsPrintedLine}
use Rattle.printed_block_laws.proofs.PrintedItems.{none_printed, printed_both, printed_more, printed_spaces}
use Rattle.printed_block_laws.proofs.BorderTexts.{AreHolesPrinted, lines_above_printed, punched_printed}
use Rattle.printed_block_laws.proofs.BorderTexts.{widened_printed}

abbrev pub IsCellLinePrinted : {S : Type 0} → CellLine S → Type 0
IsCellLinePrinted l = IsPrintedLine l.line

-- ---- cells whose borders are taken out

record IsOpenPrinted {S : Type 0} (c : OpenCell S) : Type 0 where
  lines : All IsCellLinePrinted c.lines
  filler : ArePrinted c.filler

whole_printed : {S : Type 0} (tag : S) (c : Cell S) → IsPrintedCell c → IsOpenPrinted (whole tag c)
whole_printed tag c h = record { lines = h; filler = printed_spaces c.width tag }

line_opened : {S : Type 0} (x : BlockLine S) (rest : List (CellLine S)) (c : OpenCell S) → All IsCellLinePrinted rest
    → IsOpenPrinted c → IsOpenPrinted (open_line x rest c)
line_opened (text items) rest c all h = h
line_opened (border b) rest c all h = record { lines = all; filler = h.filler }

first_opened : {S : Type 0} (lines : List (CellLine S)) (c : OpenCell S) → All IsCellLinePrinted lines
    → IsOpenPrinted c → IsOpenPrinted (open_first lines c)
first_opened [] c all h = h
first_opened (l ∷ rest) c all h = line_opened l.line rest c (All-tail IsCellLinePrinted l rest all) h

line_closed : {S : Type 0} (tag : S) (x : BlockLine S) (front : List (CellLine S)) (c : OpenCell S)
    → All IsCellLinePrinted front → IsOpenPrinted c → IsOpenPrinted (close_line tag x front c)
line_closed tag (text items) front c all h = h
line_closed tag (border b) front c all h = record {
  lines = all;
  filler = lines_above_printed tag (stretched c.width b.segments);
}

after_closed : {S : Type 0} (tag : S) (front : List (CellLine S)) (l : CellLine S) (rest : List (CellLine S))
    (c : OpenCell S) → All IsCellLinePrinted front → All IsCellLinePrinted (l ∷ rest) → IsOpenPrinted c
    → IsOpenPrinted (close_after tag front l rest c)
after_closed tag front l [] c before all h = line_closed tag l.line front c before h
after_closed tag front l (m ∷ rest) c before all h =
    after_closed tag (front ++ l ∷ []) m rest c
    (All-push IsCellLinePrinted front l before (All-head IsCellLinePrinted l (m ∷ rest) all))
    (All-tail IsCellLinePrinted l (m ∷ rest) all) h

last_closed : {S : Type 0} (tag : S) (lines : List (CellLine S)) (c : OpenCell S) → All IsCellLinePrinted lines
    → IsOpenPrinted c → IsOpenPrinted (close_last tag lines c)
last_closed tag [] c all h = h
last_closed tag (l ∷ rest) c all h = after_closed tag [] l rest c (All-nil IsCellLinePrinted) all h

closed : {S : Type 0} (tag : S) (c : OpenCell S) → IsOpenPrinted c → IsOpenPrinted (close_last tag c.lines c)
closed tag c h = last_closed tag c.lines c h.lines h

opened_printed : {S : Type 0} (collapse above : Bool) (tag : S) (c : Cell S) → IsPrintedCell c
    → IsOpenPrinted (opened collapse above tag c)
opened_printed true true tag c h =
    closed tag (open_first c.lines (whole tag c)) (first_opened c.lines (whole tag c) h (whole_printed tag c h))
opened_printed true false tag c h = closed tag (whole tag c) (whole_printed tag c h)
opened_printed false above tag c h = whole_printed tag c h

abbrev AreOpenPrinted : {S : Type 0} → List (OpenCell S) → Type 0
AreOpenPrinted [] = Unit {0}
AreOpenPrinted (c ∷ cells) = IsOpenPrinted c × AreOpenPrinted cells

-- ---- lines of the row

line_or_printed : {S : Type 0} (width : ℕ) (tag : S) (filler : List (Item S)) (lines : List (CellLine S))
    → ArePrinted filler → All IsCellLinePrinted lines → ArePrinted (line_or width tag filler lines)
line_or_printed width tag filler [] h all = h
line_or_printed width tag filler (l ∷ lines) h all =
    widened_printed width tag l.line (All-head IsCellLinePrinted l lines all)

cell_printed : {S : Type 0} (tag : S) (i : ℕ) (c : OpenCell S) → IsOpenPrinted c → ArePrinted (cell_items tag i c)
cell_printed tag i c h =
    line_or_printed c.width tag c.filler (drop i c.lines) h.filler (All-drop IsCellLinePrinted i c.lines h.lines)

row_printed : {S : Type 0} (sign : ℕ) (tag : S) (i : ℕ) (cells : List (OpenCell S)) → IsPrinted sign
    → AreOpenPrinted cells → ArePrinted (row_items sign tag i cells)
row_printed sign tag i [] is all = none_printed
row_printed sign tag i (c ∷ []) is all = cell_printed tag i c all.0
row_printed sign tag i (c ∷ d ∷ cells) is all =
    printed_both (cell_items tag i c) (character sign tag ∷ row_items sign tag i (d ∷ cells))
    (cell_printed tag i c all.0)
    (printed_more sign tag (row_items sign tag i (d ∷ cells)) is (row_printed sign tag i (d ∷ cells) is all.1))

lines_printed : {S : Type 0} (sign : ℕ) (tag : S) (cells : List (OpenCell S)) (i n : ℕ) → IsPrinted sign
    → AreOpenPrinted cells → All ArePrinted (row_lines sign tag cells i n)
lines_printed sign tag cells i zero is all = All-nil ArePrinted
lines_printed sign tag cells i (suc n) is all =
    All-cons ArePrinted (row_items sign tag i cells) (row_lines sign tag cells (i + 1) n)
    (row_printed sign tag i cells is all) (lines_printed sign tag cells (i + 1) n is all)

sign_printed : (draws : Bool) → IsPrinted (sign_of draws)
sign_printed true = refl
sign_printed false = refl

-- ---- the border below

holes_printed : {S : Type 0} (tag : S) (height at : ℕ) (cells : List (OpenCell S)) (b : Border S)
    → AreOpenPrinted cells → AreHolesPrinted b.holes → AreHolesPrinted (with_holes tag height at cells b).holes
holes_printed tag height at [] b all h = h
holes_printed tag height at (c ∷ cells) b all h =
    holes_printed tag height (at + c.width + 1) cells
    (if goes_on c then punched at (line_or c.width tag (spaces c.width tag) (drop height c.lines)) b else b) all.1
    (by_rows (goes_on c))
  where
    by_rows : (on : Bool) → AreHolesPrinted (if on then punched at (line_or c.width tag (spaces c.width tag)
        (drop height c.lines)) b else b).holes
    by_rows true =
        punched_printed at (line_or c.width tag (spaces c.width tag) (drop height c.lines)) b
        (line_or_printed c.width tag (spaces c.width tag) (drop height c.lines) (printed_spaces c.width tag)
        (All-drop IsCellLinePrinted height c.lines all.0.lines)) h
    by_rows false = h

-- ---- the cells of the row

abbrev AreCellsPrinted : {S : Type 0} → List (Cell S) → Type 0
AreCellsPrinted [] = Unit {0}
AreCellsPrinted (c ∷ cells) = IsPrintedCell c × AreCellsPrinted cells

abbrev pub IsHangingPrinted : {S : Type 0} → Hanging S → Type 0
IsHangingPrinted h = IsPrintedCell h.cell

all_cells : {S : Type 0} (cells : List (Cell S)) → All IsPrintedCell cells → AreCellsPrinted cells
all_cells [] all = tt
all_cells (c ∷ cells) all = (All-head IsPrintedCell c cells all, all_cells cells (All-tail IsPrintedCell c cells all))

empty_printed : {S : Type 0} (width : ℕ) → IsPrintedCell {S = S} (empty_cell width)
empty_printed {S = S} width = All-nil (IsCellLinePrinted {S = S})

after_seated : {S : Type 0} (at : ℕ) (hanging : List (Hanging S)) → All IsHangingPrinted hanging
    → AreCellsPrinted (seated_after at hanging)
after_seated at [] all = tt
after_seated {S = S} at (h ∷ hanging) all =
    by_gap (nat_lt at h.place)
    (after_seated (max at h.place + h.cell.width + 1) hanging (All-tail IsHangingPrinted h hanging all))
  where
    by_gap : (gap : Bool) → AreCellsPrinted (seated_after (max at h.place + h.cell.width + 1) hanging)
        → AreCellsPrinted ((if gap then empty_cell (h.place - at - 1) ∷ h.cell ∷ [] else h.cell ∷ [])
        ++ seated_after (max at h.place + h.cell.width + 1) hanging)
    by_gap true rest = (empty_printed {S = S} (h.place - at - 1), (All-head IsHangingPrinted h hanging all, rest))
    by_gap false rest = (All-head IsHangingPrinted h hanging all, rest)

seated_printed : {S : Type 0} (at : ℕ) (cells : List (Cell S)) (hanging : List (Hanging S)) → AreCellsPrinted cells
    → All IsHangingPrinted hanging → AreCellsPrinted (seated at cells hanging)
seated_printed at [] hanging all hangs = after_seated at hanging hangs
seated_printed at (c ∷ cells) [] all hangs = all
seated_printed at (c ∷ cells) (h ∷ hanging) all hangs =
    by_place (nat_le h.place at)
    (seated_printed (at + c.width + 1) cells hanging all.1 (All-tail IsHangingPrinted h hanging hangs))
    (seated_printed (at + c.width + 1) cells (h ∷ hanging) all.1 hangs)
  where
    by_place : (here : Bool) → AreCellsPrinted (seated (at + c.width + 1) cells hanging)
        → AreCellsPrinted (seated (at + c.width + 1) cells (h ∷ hanging))
        → AreCellsPrinted (if here then h.cell ∷ seated (at + c.width + 1) cells hanging
        else c ∷ seated (at + c.width + 1) cells (h ∷ hanging))
    by_place true a b = (All-head IsHangingPrinted h hanging hangs, a)
    by_place false a b = (all.0, b)

all_open : {S : Type 0} (collapse above : Bool) (tag : S) (cells : List (Cell S)) → AreCellsPrinted cells
    → AreOpenPrinted (map (opened collapse above tag) cells)
all_open collapse above tag [] all = tt
all_open collapse above tag (c ∷ cells) all =
    (opened_printed collapse above tag c all.0, all_open collapse above tag cells all.1)

cells_open : {S : Type 0} (collapse : Bool) (tag : S) (above : Option (Border S)) (cells : List (Cell S))
    (hanging : List (Hanging S)) → All IsPrintedCell cells → All IsHangingPrinted hanging
    → AreOpenPrinted (row_cells collapse tag above cells hanging)
cells_open collapse tag above cells hanging all hangs =
    all_open collapse (is_given above) tag (seated 0 cells hanging)
    (seated_printed 0 cells hanging (all_cells cells all) hangs)

-- ---- the cells that go on

hanging_printed : {S : Type 0} (height at : ℕ) (cells : List (OpenCell S)) → AreOpenPrinted cells
    → All IsHangingPrinted (hanging_of height at cells)
hanging_printed height at [] all = All-nil IsHangingPrinted
hanging_printed height at (c ∷ cells) all =
    by_rows (goes_on c) (hanging_printed height (at + c.width + 1) cells all.1)
  where
    by_rows : (on : Bool) → All IsHangingPrinted (hanging_of height (at + c.width + 1) cells)
        → All IsHangingPrinted ((if on then (record { place = at; cell = further height c }) ∷ [] else [])
        ++ hanging_of height (at + c.width + 1) cells)
    by_rows true rest =
        All-cons IsHangingPrinted (record { place = at; cell = further height c })
        (hanging_of height (at + c.width + 1) cells)
        (All-drop IsCellLinePrinted (height + 1) c.lines all.0.lines) rest
    by_rows false rest = rest

-- ---- the row

above_printed : {S : Type 0} (cells : List (OpenCell S)) (above : Option (Border S))
    → IfSome above (λ b. AreHolesPrinted b.holes)
    → IfSome (option_map (joined_to_row cells) above) (λ b. AreHolesPrinted b.holes)
above_printed cells None h = tt
above_printed cells (Some b) h = h

-- of a row that is to stand in a block, what holds no control character
pub record IsRowPrinted {S : Type 0} (row : Row S) : Type 0 where
  pub above : IfSome row.above (λ b. AreHolesPrinted b.holes)
  pub lines : All ArePrinted row.lines
  pub below : AreHolesPrinted row.below.holes
  pub hanging : All IsHangingPrinted row.hanging

pub across_printed : {S : Type 0} (draws collapse : Bool) (tag : S) (above : Option (Border S)) (cells : List (Cell S))
    (hanging : List (Hanging S)) → IfSome above (λ b. AreHolesPrinted b.holes) → All IsPrintedCell cells
    → All IsHangingPrinted hanging → IsRowPrinted (across draws collapse tag above cells hanging)
across_printed {S = S} draws collapse tag above cells hanging over all hangs =
    let row = row_cells collapse tag above cells hanging in
    let printed = cells_open collapse tag above cells hanging all hangs in
    record {
      above = above_printed row above over;
      lines = lines_printed (sign_of draws) tag row 0 (row_height row) (sign_printed draws) printed;
      below = holes_printed tag (row_height row) 0 row (border_below tag row) printed
          (All-nil (λ (h : Hole S). ArePrinted h.items));
      hanging = hanging_printed (row_height row) 0 row printed;
    }
