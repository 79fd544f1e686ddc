-- The columns of rows of cells.
use Rattle.std.proofs.Common.{◌≡◌, ◌+◌, ◌-◌, ◌<◌, ◌≤◌, [], ◌∷◌, ◌++◌, if◌then◌else◌, ◌∙◌, Bool, List, arith, drop}
use Rattle.std.proofs.Common.{false, inl, inr, length, map, refl, replicate, subst, suc, sym, true, zero, ℕ}
use Rattle.std.specs.Prelude.{nat_le, nat_lt, fold, max, All, Option, Some}
use Rattle.std.specs.Option.{option_map}
use Rattle.std.proofs.lemmas.List.{length-replicate}
use Rattle.std.proofs.lemmas.List.Elements.{All-nil, All-cons, All-head, All-tail}
use Rattle.text_lines.specs.Columns.{width_of}
use Rattle.text_lines.specs.Tagged.{Item, character, marker, tagged, line_columns}
use Rattle.text_pieces.proofs.ItemColumns.{line_columns-append, line_columns-cons}
use Rattle.text_borders.specs.Segments.{Segment, with_up, with_down, joins_above, joins_below, runs_above}
use Rattle.text_borders.specs.Borders.{Border, change_to, columns_where, horizontal, line_above, punched, punched_at}
use Rattle.text_borders.specs.Borders.{shown, stretched, with_segments}
use Rattle.text_borders.specs.Lines.{BlockLine, text, border}
use Rattle.text_borders.specs.BorderLaws.{AreInOrder, IsSound}
use Rattle.text_borders.specs.Across.{Cell, CellLine, Hanging, OpenCell, across, border_below, cell_items, close_after}
use Rattle.text_borders.specs.Across.{close_last, close_line, empty_cell, further, goes_on, hanging_of, is_given}
use Rattle.text_borders.specs.Across.{joined_to_row, line_or, of_cells, open_first, open_line, opened, retagged}
use Rattle.text_borders.specs.Across.{row_cells, row_height, row_items, row_lines, row_width, seated, seated_after}
use Rattle.text_borders.specs.Across.{sign_of, signs, spaces, whole, widened, width_across, with_holes}
use Rattle.text_borders.specs.AcrossLaws.{LineFits, CellFits}
use Rattle.text_borders.proofs.BorderLemmas.{border_columns, length-change_to, length-punched, length-stretched}
use Rattle.text_borders.proofs.BorderLemmas.{one_column, order_more, order_wider, punched_sound, stands_at}

-- ---- lines of cells

space_column : width_of 0x20 ≡ 1
space_column = one_column 0x20 (inr (omega arith, omega arith))

pub spaces_columns : {S : Type 0} (n : ℕ) (tag : S) → line_columns (spaces n tag) ≡ n
spaces_columns zero tag = refl
spaces_columns (suc n) tag =
    let rest = spaces_columns n tag in
    omega (arith, line_columns-cons (character 0x20 tag) (spaces n tag), space_column, rest)

pub retagged_columns : {S : Type 0} (tag : S) (items : List (Item S)) → line_columns (retagged tag items)
    ≡ line_columns items
retagged_columns tag [] = refl
retagged_columns tag (character c old ∷ items) =
    let rest = retagged_columns tag items in
    omega (
      arith,
      line_columns-cons (character c tag) (retagged tag items),
      line_columns-cons (character c old) items,
      rest,
    )
retagged_columns tag (marker name ∷ items) =
    let rest = retagged_columns tag items in omega (arith, line_columns-cons (marker name) items, rest)

widened_columns : {S : Type 0} (width : ℕ) (tag : S) (l : BlockLine S) → LineFits width l
    → line_columns (widened width tag l) ≡ width
widened_columns width tag (text items) fits =
    omega (
      arith,
      line_columns-append items (spaces (width - line_columns items) tag),
      spaces_columns (width - line_columns items) tag,
      fits,
    )
widened_columns width tag (border b) fits =
    let n = length-stretched width b.segments in
    retagged_columns tag (shown (with_segments (stretched width b.segments) b))
    ∙ border_columns (with_segments (stretched width b.segments) b)
    (order_wider 0 (length b.segments) (length (stretched width b.segments)) b.holes (omega (arith, n)) fits.0)
    ∙ n ∙ omega (arith, fits.1)

-- ---- cells whose borders are taken out

abbrev LinesFit : {S : Type 0} → ℕ → List (CellLine S) → Type 0
LinesFit width lines = All (λ l. LineFits width l.line) lines

abbrev AreBelow : ℕ → List ℕ → Type 0
AreBelow n ks = All (λ k. k < n) ks

record OpenFits {S : Type 0} (c : OpenCell S) : Type 0 where
  lines : LinesFit c.width c.lines
  filler : line_columns c.filler ≡ c.width
  above : AreBelow c.width c.asks_above
  below : AreBelow c.width c.asks_below

below_wider : (m n : ℕ) (ks : List ℕ) → m ≤ n → AreBelow m ks → AreBelow n ks
below_wider m n [] h all = All-nil (λ k. k < n)
below_wider m n (k ∷ ks) h all =
    let here = All-head (λ j. j < m) k ks all in
    All-cons (λ j. j < n) k ks (omega (arith, h, here)) (below_wider m n ks h (All-tail (λ j. j < m) k ks all))

where_below : (is : Segment → Bool) (at : ℕ) (ss : List Segment) → AreBelow (at + length ss) (columns_where is at ss)
where_below is at [] = All-nil (λ k. k < at + 0)
where_below is at (s ∷ ss) = by_test (is s)
    (below_wider (at + 1 + length ss) (at + length (s ∷ ss)) (columns_where is (at + 1) ss) (omega arith)
    (where_below is (at + 1) ss))
  where
    by_test : (t : Bool) → AreBelow (at + length (s ∷ ss)) (columns_where is (at + 1) ss)
        → AreBelow (at + length (s ∷ ss)) (if t then at ∷ columns_where is (at + 1) ss
        else columns_where is (at + 1) ss)
    by_test true rest = All-cons (λ k. k < at + length (s ∷ ss)) at (columns_where is (at + 1) ss) (omega arith) rest
    by_test false rest = rest

asked_within : (is : Segment → Bool) (width : ℕ) (ss : List Segment) → length ss ≤ width
    → AreBelow width (columns_where is 0 ss)
asked_within is width ss h = below_wider (0 + length ss) width (columns_where is 0 ss) (omega (arith, h))
    (where_below is 0 ss)

whole_fits : {S : Type 0} (tag : S) (c : Cell S) → CellFits c → OpenFits (whole tag c)
whole_fits tag c fits = record {
  lines = fits;
  filler = spaces_columns c.width tag;
  above = All-nil (λ k. k < c.width);
  below = All-nil (λ k. k < c.width);
}

first_fits : {S : Type 0} (lines : List (CellLine S)) (c : OpenCell S) → LinesFit c.width lines → OpenFits c
    → OpenFits (open_first lines c)
first_fits [] c all fits = fits
first_fits (l ∷ rest) c all fits = by_line l.line (All-head (λ x. LineFits c.width x.line) l rest all)
  where
    by_line : (x : BlockLine _) → LineFits c.width x → OpenFits (open_line x rest c)
    by_line (text items) h = fits
    by_line (border b) h = record {
      lines = All-tail (λ x. LineFits c.width x.line) l rest all;
      filler = fits.filler;
      above = asked_within joins_below c.width b.segments h.1;
      below = fits.below;
    }

line_above_column : (s : Segment) → width_of (line_above s) ≡ 1
line_above_column s = by_line (runs_above s)
  where
    by_line : (b : Bool) → width_of (if b then 0x2502 else 0x20) ≡ 1
    by_line true = one_column 0x2502 (inl refl)
    by_line false = space_column

lines_above_columns : {S : Type 0} (tag : S) (ss : List Segment) → line_columns (tagged (map line_above ss) tag)
    ≡ length ss
lines_above_columns tag [] = refl
lines_above_columns tag (s ∷ ss) =
    let rest = lines_above_columns tag ss in
    omega (
      arith,
      line_columns-cons (character (line_above s) tag) (tagged (map line_above ss) tag),
      line_above_column s,
      rest,
    )

close_fits : {S : Type 0} (tag : S) (x : BlockLine S) (front : List (CellLine S)) (c : OpenCell S)
    → LineFits c.width x → LinesFit c.width front → OpenFits c → OpenFits (close_line tag x front c)
close_fits tag (text items) front c h all fits = fits
close_fits tag (border b) front c h all fits = record {
  lines = all;
  filler = lines_above_columns tag (stretched c.width b.segments) ∙ length-stretched c.width b.segments
      ∙ omega (arith, h.1);
  above = fits.above;
  below = asked_within joins_above c.width b.segments h.1;
}

push_fits : {S : Type 0} (width : ℕ) (front : List (CellLine S)) (l : CellLine S) → LinesFit width front
    → LineFits width l.line → LinesFit width (front ++ l ∷ [])
push_fits width [] l all h = All-cons (λ x. LineFits width x.line) l [] h (All-nil (λ x. LineFits width x.line))
push_fits width (x ∷ front) l all h =
    All-cons (λ y. LineFits width y.line) x (front ++ l ∷ []) (All-head (λ y. LineFits width y.line) x front all)
    (push_fits width front l (All-tail (λ y. LineFits width y.line) x front all) h)

after_fits : {S : Type 0} (tag : S) (front : List (CellLine S)) (l : CellLine S) (rest : List (CellLine S))
    (c : OpenCell S) → LinesFit c.width front → LinesFit c.width (l ∷ rest) → OpenFits c
    → OpenFits (close_after tag front l rest c)
after_fits tag front l [] c before all fits =
    close_fits tag l.line front c (All-head (λ x. LineFits c.width x.line) l [] all) before fits
after_fits tag front l (m ∷ rest) c before all fits =
    after_fits tag (front ++ l ∷ []) m rest c
    (push_fits c.width front l before (All-head (λ x. LineFits c.width x.line) l (m ∷ rest) all))
    (All-tail (λ x. LineFits c.width x.line) l (m ∷ rest) all) fits

last_fits : {S : Type 0} (tag : S) (lines : List (CellLine S)) (c : OpenCell S) → LinesFit c.width lines → OpenFits c
    → OpenFits (close_last tag lines c)
last_fits tag [] c all fits = fits
last_fits tag (l ∷ rest) c all fits = after_fits tag [] l rest c (All-nil (λ x. LineFits c.width x.line)) all fits

opened_fits : {S : Type 0} (collapse above : Bool) (tag : S) (c : Cell S) → CellFits c
    → OpenFits (opened collapse above tag c)
opened_fits true true tag c fits =
    let first = first_fits c.lines (whole tag c) fits (whole_fits tag c fits) in
    same_lines (open_first c.lines (whole tag c)) first
  where
    same_lines : (x : OpenCell _) → OpenFits x → OpenFits (close_last tag x.lines x)
    same_lines x h = last_fits tag x.lines x h.lines h
opened_fits true false tag c fits = last_fits tag c.lines (whole tag c) fits (whole_fits tag c fits)
opened_fits false above tag c fits = whole_fits tag c fits

-- ---- lines of the row

drop_fits : {S : Type 0} (width i : ℕ) (lines : List (CellLine S)) → LinesFit width lines →
    LinesFit width (drop i lines)
drop_fits width zero lines all = all
drop_fits width (suc i) [] all = all
drop_fits width (suc i) (l ∷ lines) all = drop_fits width i lines (All-tail (λ x. LineFits width x.line) l lines all)

line_or_columns : {S : Type 0} (width : ℕ) (tag : S) (filler : List (Item S)) (lines : List (CellLine S))
    → line_columns filler ≡ width → LinesFit width lines → line_columns (line_or width tag filler lines) ≡ width
line_or_columns width tag filler [] h all = h
line_or_columns width tag filler (l ∷ lines) h all =
    widened_columns width tag l.line (All-head (λ x. LineFits width x.line) l lines all)

cell_columns : {S : Type 0} (tag : S) (i : ℕ) (c : OpenCell S) → OpenFits c → line_columns (cell_items tag i c)
    ≡ c.width
cell_columns tag i c fits =
    line_or_columns c.width tag c.filler (drop i c.lines) fits.filler (drop_fits c.width i c.lines fits.lines)

abbrev AllOpen : {S : Type 0} → List (OpenCell S) → Type 0
AllOpen [] = Unit {0}
AllOpen (c ∷ cells) = OpenFits c × AllOpen cells

row_columns : {S : Type 0} (sign : ℕ) (tag : S) (i : ℕ) (cells : List (OpenCell S)) → width_of sign ≡ 1 → AllOpen cells
    → line_columns (row_items sign tag i cells) ≡ row_width cells
row_columns sign tag i [] one all = refl
row_columns sign tag i (c ∷ []) one all = cell_columns tag i c all.0
row_columns sign tag i (c ∷ d ∷ cells) one all =
    let rest = row_columns sign tag i (d ∷ cells) one all.1 in
    let here = cell_columns tag i c all.0 in
    omega (
      arith,
      line_columns-append (cell_items tag i c) (character sign tag ∷ row_items sign tag i (d ∷ cells)),
      line_columns-cons (character sign tag) (row_items sign tag i (d ∷ cells)),
      one,
      here,
      rest,
    )

lines_columns : {S : Type 0} (sign : ℕ) (tag : S) (cells : List (OpenCell S)) (i n : ℕ) → width_of sign ≡ 1
    → AllOpen cells → All (λ l. line_columns l ≡ row_width cells) (row_lines sign tag cells i n)
lines_columns sign tag cells i zero one all = All-nil (λ l. line_columns l ≡ row_width cells)
lines_columns sign tag cells i (suc n) one all =
    All-cons (λ l. line_columns l ≡ row_width cells) _ (row_lines sign tag cells (i + 1) n)
    (row_columns sign tag i cells one all) (lines_columns sign tag cells (i + 1) n one all)

-- ---- the border below

append_below : (n : ℕ) (xs ys : List ℕ) → AreBelow n xs → AreBelow n ys → AreBelow n (xs ++ ys)
append_below n [] ys hx hy = hy
append_below n (x ∷ xs) ys hx hy =
    All-cons (λ k. k < n) x (xs ++ ys) (All-head (λ k. k < n) x xs hx)
    (append_below n xs ys (All-tail (λ k. k < n) x xs hx) hy)

moved_below : (at m n : ℕ) (ks : List ℕ) → at + m ≤ n → AreBelow m ks → AreBelow n (map (λ k. at + k) ks)
moved_below at m n [] h all = All-nil (λ k. k < n)
moved_below at m n (k ∷ ks) h all =
    let here = All-head (λ j. j < m) k ks all in
    All-cons (λ j. j < n) (at + k) (map (λ j. at + j) ks) (omega (arith, h, here))
    (moved_below at m n ks h (All-tail (λ j. j < m) k ks all))

signs_below : {S : Type 0} (at : ℕ) (cells : List (OpenCell S)) → AreBelow (at + row_width cells) (signs at cells)
signs_below at [] = All-nil (λ k. k < at + 0)
signs_below at (c ∷ []) = All-nil (λ k. k < at + c.width)
signs_below at (c ∷ d ∷ cells) =
    All-cons (λ k. k < at + row_width (c ∷ d ∷ cells)) (at + c.width) (signs (at + c.width + 1) (d ∷ cells))
    (omega arith)
    (below_wider (at + c.width + 1 + row_width (d ∷ cells)) (at + row_width (c ∷ d ∷ cells))
    (signs (at + c.width + 1) (d ∷ cells)) (omega arith) (signs_below (at + c.width + 1) (d ∷ cells)))

-- what each cell asks for lies within the cell
abbrev AskWithin : {S : Type 0} → (OpenCell S → List ℕ) → Type 0
AskWithin {S} columns = (c : OpenCell S) → OpenFits c → AreBelow c.width (columns c)

all_asked : {S : Type 0} (columns : OpenCell S → List ℕ) (at : ℕ) (cells : List (OpenCell S)) → AskWithin columns
    → AllOpen cells → AreBelow (at + row_width cells) (of_cells columns at cells)
all_asked columns at [] within all = All-nil (λ k. k < at + 0)
all_asked columns at (c ∷ []) within all =
    append_below (at + c.width) (map (λ k. at + k) (columns c)) []
    (moved_below at c.width (at + c.width) (columns c) (omega arith) (within c all.0)) (All-nil (λ k. k < at + c.width))
all_asked columns at (c ∷ d ∷ cells) within all =
    append_below (at + row_width (c ∷ d ∷ cells)) (map (λ k. at + k) (columns c))
    (of_cells columns (at + c.width + 1) (d ∷ cells))
    (moved_below at c.width (at + row_width (c ∷ d ∷ cells)) (columns c) (omega arith) (within c all.0))
    (below_wider (at + c.width + 1 + row_width (d ∷ cells)) (at + row_width (c ∷ d ∷ cells))
    (of_cells columns (at + c.width + 1) (d ∷ cells)) (omega arith)
    (all_asked columns (at + c.width + 1) (d ∷ cells) within all.1))

-- the columns between cells, and those that the cells ask for, lie within the row
joins_within : {S : Type 0} (columns : OpenCell S → List ℕ) (cells : List (OpenCell S)) → AskWithin columns
    → AllOpen cells → AreBelow (row_width cells) (signs 0 cells ++ of_cells columns 0 cells)
joins_within columns cells within all =
    below_wider (0 + row_width cells) (row_width cells) (signs 0 cells ++ of_cells columns 0 cells) (omega arith)
    (append_below (0 + row_width cells) (signs 0 cells) (of_cells columns 0 cells) (signs_below 0 cells)
    (all_asked columns 0 cells within all))

fold_keeps : (f : Segment → Segment) (ks : List ℕ) (ss : List Segment) → AreBelow (length ss) ks
    → length (fold (change_to f) ss ks) ≡ length ss
fold_keeps f [] ss all = refl
fold_keeps f (k ∷ ks) ss all =
    let here = All-head (λ j. j < length ss) k ks all in
    let n = length-change_to f ss k in
    let same : length (change_to f ss k) ≡ length ss = omega (arith, n, here) in
    fold_keeps f ks (change_to f ss k)
    (below_wider (length ss) (length (change_to f ss k)) ks (omega (arith, same))
    (All-tail (λ j. j < length ss) k ks all)) ∙ same

below_width : {S : Type 0} (tag : S) (cells : List (OpenCell S)) → AllOpen cells
    → length (border_below tag cells).segments ≡ row_width cells
below_width tag cells all =
    let n = length-replicate (row_width cells) horizontal in
    fold_keeps (option_map with_up) (signs 0 cells ++ of_cells (λ c. c.asks_below) 0 cells)
    (replicate (row_width cells) horizontal)
    (below_wider (row_width cells) (length (replicate (row_width cells) horizontal)) _ (omega (arith, n))
    (joins_within (λ c. c.asks_below) cells (λ c fits. fits.below) all)) ∙ n

above_width : {S : Type 0} (b : Border S) (cells : List (OpenCell S)) → AllOpen cells
    → length (joined_to_row cells b).segments ≡ max (length b.segments) (row_width cells)
above_width b cells all =
    let n = length-stretched (row_width cells) b.segments in
    fold_keeps (option_map with_down) (signs 0 cells ++ of_cells (λ c. c.asks_above) 0 cells)
    (stretched (row_width cells) b.segments)
    (below_wider (row_width cells) (length (stretched (row_width cells) b.segments)) _ (omega (arith, n))
    (joins_within (λ c. c.asks_above) cells (λ c fits. fits.above) all)) ∙ n

record HolesFit {S : Type 0} (total : ℕ) (b : Border S) : Type 0 where
  width : length b.segments ≡ total
  sound : AreInOrder 0 total b.holes

hole_columns : {S : Type 0} (tag : S) (height : ℕ) (c : OpenCell S) → OpenFits c
    → line_columns (line_or c.width tag (spaces c.width tag) (drop height c.lines)) ≡ c.width
hole_columns tag height c fits =
    line_or_columns c.width tag (spaces c.width tag) (drop height c.lines) (spaces_columns c.width tag)
    (drop_fits c.width height c.lines fits.lines)

-- a border whose texts end before a column, and whether a cell goes on there or not
record EndsBefore {S : Type 0} (total m : ℕ) (b : Border S) : Type 0 where
  width : length b.segments ≡ total
  order : AreInOrder 0 m b.holes

holed : {S : Type 0} (total m at : ℕ) (tag : S) (height : ℕ) (c : OpenCell S) (b : Border S) (on : Bool) → OpenFits c
    → m ≤ at → at + c.width ≤ total → EndsBefore total m b
    → EndsBefore total (at + c.width)
    (if on then punched at (line_or c.width tag (spaces c.width tag) (drop height c.lines)) b else b)
holed total m at tag height c b true fits trailing within e =
    let items = line_or c.width tag (spaces c.width tag) (drop height c.lines) in
    let n = hole_columns tag height c fits in
    let before = order_wider 0 m at b.holes trailing e.order in
    subst (EndsBefore total (at + c.width)) (sym (stands_at at items b before)) (record {
      width = length-punched at items b ∙ omega (arith, e.width, n, within);
      order = order_wider 0 (at + line_columns items) (at + c.width) (punched_at at items b).holes (omega (arith, n))
          (order_more 0 at items b.holes before);
    })
holed total m at tag height c b false fits trailing within e = record {
  width = e.width;
  order = order_wider 0 m (at + c.width) b.holes (omega (arith, trailing)) e.order;
}

holes_fit : {S : Type 0} (total m at : ℕ) (tag : S) (height : ℕ) (cells : List (OpenCell S)) (b : Border S)
    → AllOpen cells → m ≤ at → m ≤ total → at + row_width cells ≤ total → EndsBefore total m b
    → HolesFit total (with_holes tag height at cells b)
holes_fit total m at tag height [] b all trailing ends within e = record {
  width = e.width;
  sound = order_wider 0 m total b.holes ends e.order;
}
holes_fit total m at tag height (c ∷ []) b all trailing ends within e =
    let next = holed total m at tag height c b (goes_on c) all.0 trailing within e in
    record {
      width = next.width;
      sound = order_wider 0 (at + c.width) total _ within next.order;
    }
holes_fit total m at tag height (c ∷ d ∷ cells) b all trailing ends within e =
    holes_fit total (at + c.width) (at + c.width + 1) tag height (d ∷ cells)
    (if goes_on c then punched at (line_or c.width tag (spaces c.width tag) (drop height c.lines)) b else b) all.1
    (omega arith) (omega (arith, within)) (omega (arith, within))
    (holed total m at tag height c b (goes_on c) all.0 trailing (omega (arith, within)) e)

-- ---- the cells of the row

empty_fits : {S : Type 0} (width : ℕ) → CellFits {S = S} (empty_cell width)
empty_fits width = All-nil (λ l. LineFits width l.line)

abbrev AllCells : {S : Type 0} → List (Cell S) → Type 0
AllCells [] = Unit {0}
AllCells (c ∷ cells) = CellFits c × AllCells cells

all_cells : {S : Type 0} (cells : List (Cell S)) → All CellFits cells → AllCells cells
all_cells [] all = tt
all_cells (c ∷ cells) all = (All-head CellFits c cells all, all_cells cells (All-tail CellFits c cells all))

after_cells : {S : Type 0} (at : ℕ) (hanging : List (Hanging S)) → All (λ h. CellFits h.cell) hanging
    → AllCells (seated_after at hanging)
after_cells at [] all = tt
after_cells at (h ∷ hanging) all = by_gap (nat_lt at h.place)
    (after_cells (max at h.place + h.cell.width + 1) hanging (All-tail (λ x. CellFits x.cell) h hanging all))
  where
    by_gap : (gap : Bool) → AllCells (seated_after (max at h.place + h.cell.width + 1) hanging)
        → AllCells ((if gap then empty_cell (h.place - at - 1) ∷ h.cell ∷ [] else h.cell ∷ [])
        ++ seated_after (max at h.place + h.cell.width + 1) hanging)
    by_gap true rest = (empty_fits (h.place - at - 1), (All-head (λ x. CellFits x.cell) h hanging all, rest))
    by_gap false rest = (All-head (λ x. CellFits x.cell) h hanging all, rest)

seated_cells : {S : Type 0} (at : ℕ) (cells : List (Cell S)) (hanging : List (Hanging S)) → AllCells cells
    → All (λ h. CellFits h.cell) hanging → AllCells (seated at cells hanging)
seated_cells at [] hanging all hangs = after_cells at hanging hangs
seated_cells at (c ∷ cells) [] all hangs = all
seated_cells at (c ∷ cells) (h ∷ hanging) all hangs = by_place (nat_le h.place at)
    (seated_cells (at + c.width + 1) cells hanging all.1 (All-tail (λ x. CellFits x.cell) h hanging hangs))
    (seated_cells (at + c.width + 1) cells (h ∷ hanging) all.1 hangs)
  where
    by_place : (here : Bool) → AllCells (seated (at + c.width + 1) cells hanging)
        → AllCells (seated (at + c.width + 1) cells (h ∷ hanging))
        → AllCells (if here then h.cell ∷ seated (at + c.width + 1) cells hanging
        else c ∷ seated (at + c.width + 1) cells (h ∷ hanging))
    by_place true a b = (All-head (λ x. CellFits x.cell) h hanging hangs, a)
    by_place false a b = (all.0, b)

all_open : {S : Type 0} (collapse above : Bool) (tag : S) (cells : List (Cell S)) → AllCells cells
    → AllOpen (map (opened collapse above tag) cells)
all_open collapse above tag [] all = tt
all_open collapse above tag (c ∷ cells) all =
    (opened_fits collapse above tag c all.0, all_open collapse above tag cells all.1)

cells_open : {S : Type 0} (collapse : Bool) (tag : S) (above : Option (Border S)) (cells : List (Cell S))
    (hanging : List (Hanging S)) → All CellFits cells → All (λ h. CellFits h.cell) hanging
    → AllOpen (row_cells collapse tag above cells hanging)
cells_open collapse tag above cells hanging all hangs =
    all_open collapse (is_given above) tag (seated 0 cells hanging)
    (seated_cells 0 cells hanging (all_cells cells all) hangs)

sign_column : (draws : Bool) → width_of (sign_of draws) ≡ 1
sign_column true = one_column 0x2502 (inl refl)
sign_column false = space_column

pub row_lines_columns : {S : Type 0} (draws collapse : Bool) (tag : S) (above : Option (Border S))
    (cells : List (Cell S))
    (hanging : List (Hanging S)) → All CellFits cells → All (λ h. CellFits h.cell) hanging
    → All (λ l. line_columns l ≡ width_across collapse tag above cells hanging)
    (across draws collapse tag above cells hanging).lines
row_lines_columns draws collapse tag above cells hanging all hangs =
    lines_columns (sign_of draws) tag (row_cells collapse tag above cells hanging) 0
    (row_height (row_cells collapse tag above cells hanging)) (sign_column draws)
    (cells_open collapse tag above cells hanging all hangs)

row_below_fits : {S : Type 0} (draws collapse : Bool) (tag : S) (above : Option (Border S)) (cells : List (Cell S))
    (hanging : List (Hanging S)) → All CellFits cells → All (λ h. CellFits h.cell) hanging
    → HolesFit (width_across collapse tag above cells hanging) (across draws collapse tag above cells hanging).below
row_below_fits draws collapse tag above cells hanging all hangs =
    let row = row_cells collapse tag above cells hanging in
    let fit = cells_open collapse tag above cells hanging all hangs in
    let start : EndsBefore (row_width row) 0 (border_below tag row) = record {
      width = below_width tag row fit;
      order = omega arith;
    } in
    holes_fit (row_width row) 0 0 tag (row_height row) row (border_below tag row) fit (omega arith) (omega arith)
    (omega arith) start

pub row_below_width : {S : Type 0} (draws collapse : Bool) (tag : S) (above : Option (Border S)) (cells : List (Cell S))
    (hanging : List (Hanging S)) → All CellFits cells → All (λ h. CellFits h.cell) hanging
    → length (across draws collapse tag above cells hanging).below.segments
    ≡ width_across collapse tag above cells hanging
row_below_width draws collapse tag above cells hanging all hangs =
    (row_below_fits draws collapse tag above cells hanging all hangs).width

pub row_below_sound : {S : Type 0} (draws collapse : Bool) (tag : S) (above : Option (Border S)) (cells : List (Cell S))
    (hanging : List (Hanging S)) → All CellFits cells → All (λ h. CellFits h.cell) hanging
    → IsSound (across draws collapse tag above cells hanging).below
row_below_sound draws collapse tag above cells hanging all hangs =
    let fits = row_below_fits draws collapse tag above cells hanging all hangs in
    order_wider 0 (width_across collapse tag above cells hanging) _ _ (omega (arith, fits.width)) fits.sound

pub row_below_columns : {S : Type 0} (draws collapse : Bool) (tag : S) (above : Option (Border S))
    (cells : List (Cell S))
    (hanging : List (Hanging S)) → All CellFits cells → All (λ h. CellFits h.cell) hanging
    → line_columns (shown (across draws collapse tag above cells hanging).below)
    ≡ width_across collapse tag above cells hanging
row_below_columns draws collapse tag above cells hanging all hangs =
    border_columns (across draws collapse tag above cells hanging).below
    (row_below_sound draws collapse tag above cells hanging all hangs)
    ∙ row_below_width draws collapse tag above cells hanging all hangs

-- ---- the border above

pub row_above_width : {S : Type 0} (collapse : Bool) (tag : S) (above : Border S) (cells : List (Cell S))
    (hanging : List (Hanging S)) → All CellFits cells → All (λ h. CellFits h.cell) hanging
    → length (joined_to_row (row_cells collapse tag (Some above) cells hanging) above).segments
    ≡ max (length above.segments) (width_across collapse tag (Some above) cells hanging)
row_above_width collapse tag above cells hanging all hangs =
    above_width above (row_cells collapse tag (Some above) cells hanging)
    (cells_open collapse tag (Some above) cells hanging all hangs)

pub row_above_sound : {S : Type 0} (collapse : Bool) (tag : S) (above : Border S) (cells : List (Cell S))
    (hanging : List (Hanging S)) → All CellFits cells → All (λ h. CellFits h.cell) hanging → IsSound above
    → IsSound (joined_to_row (row_cells collapse tag (Some above) cells hanging) above)
row_above_sound collapse tag above cells hanging all hangs sound =
    let n = row_above_width collapse tag above cells hanging all hangs in
    order_wider 0 (length above.segments) _ above.holes (omega (arith, n)) sound

-- ---- whatever the cells hold

holes_sound : {S : Type 0} (tag : S) (height at : ℕ) (cells : List (OpenCell S)) (b : Border S) → IsSound b
    → IsSound (with_holes tag height at cells b)
holes_sound tag height at [] b sound = sound
holes_sound tag height at (c ∷ cells) b sound = holes_sound tag height (at + c.width + 1) cells
    (if goes_on c then punched at (line_or c.width tag (spaces c.width tag) (drop height c.lines)) b else b)
    (by_rows (goes_on c))
  where
    by_rows : (on : Bool) → IsSound (if on then punched at (line_or c.width tag (spaces c.width tag)
        (drop height c.lines)) b else b)
    by_rows true = punched_sound at (line_or c.width tag (spaces c.width tag) (drop height c.lines)) b sound
    by_rows false = sound

pub below_sound : {S : Type 0} (draws collapse : Bool) (tag : S) (above : Option (Border S)) (cells : List (Cell S))
    (hanging : List (Hanging S)) → IsSound (across draws collapse tag above cells hanging).below
below_sound draws collapse tag above cells hanging =
    let row = row_cells collapse tag above cells hanging in
    holes_sound tag (row_height row) 0 row (border_below tag row) (omega arith)

change_grows : (f : Segment → Segment) (ks : List ℕ) (ss : List Segment) → length ss ≤ length (fold (change_to f) ss ks)
change_grows f [] ss = omega arith
change_grows f (k ∷ ks) ss =
    let rest = change_grows f ks (change_to f ss k) in omega (arith, rest, length-change_to f ss k)

pub above_sound : {S : Type 0} (cells : List (OpenCell S)) (above : Border S) → IsSound above
    → IsSound (joined_to_row cells above)
above_sound cells above sound =
    let grows = change_grows (option_map with_down) (signs 0 cells ++ of_cells (λ c. c.asks_above) 0 cells)
    (stretched (row_width cells) above.segments) in
    order_wider 0 (length above.segments) _ above.holes
    (omega (arith, grows, length-stretched (row_width cells) above.segments)) sound

-- ---- the cells that go on

hanging_fit : {S : Type 0} (height at : ℕ) (cells : List (OpenCell S)) → AllOpen cells
    → All (λ h. CellFits h.cell) (hanging_of height at cells)
hanging_fit height at [] all = All-nil (λ h. CellFits h.cell)
hanging_fit height at (c ∷ cells) all = by_rows (goes_on c) (hanging_fit height (at + c.width + 1) cells all.1)
  where
    by_rows : (on : Bool) → All (λ h. CellFits h.cell) (hanging_of height (at + c.width + 1) cells)
        → All (λ h. CellFits h.cell) ((if on then (record { place = at; cell = further height c }) ∷ [] else [])
        ++ hanging_of height (at + c.width + 1) cells)
    by_rows true rest = All-cons (λ h. CellFits h.cell) (record { place = at; cell = further height c })
        (hanging_of height (at + c.width + 1) cells) (drop_fits c.width (height + 1) c.lines all.0.lines) rest
    by_rows false rest = rest

pub row_hanging_fit : {S : Type 0} (draws collapse : Bool) (tag : S) (above : Option (Border S)) (cells : List (Cell S))
    (hanging : List (Hanging S)) → All CellFits cells → All (λ h. CellFits h.cell) hanging
    → All (λ h. CellFits h.cell) (across draws collapse tag above cells hanging).hanging
row_hanging_fit draws collapse tag above cells hanging all hangs =
    hanging_fit (row_height (row_cells collapse tag above cells hanging)) 0
    (row_cells collapse tag above cells hanging) (cells_open collapse tag above cells hanging all hangs)
