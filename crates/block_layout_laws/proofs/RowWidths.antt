-- Borders, other blocks and rows keep the lines of a block within its width.
use Rattle.std.proofs.Common.{◌≡◌, ◌+◌, ◌≤◌, ◌||◌, [], ◌∷◌, ◌++◌, ◌∙◌, Bool, IfSome, List, None, Option, Some, ap}
use Rattle.std.proofs.Common.{arith, false, length, refl, subst, sym, true, ℕ}
use Rattle.std.specs.Prelude.{All, fold, max, ⊤, if◌then◌else◌}
use Rattle.std.specs.Option.{option_map}
use Rattle.std.proofs.lemmas.Option.{MatchOption-at_some, same_Some}
use Rattle.std.proofs.lemmas.List.{length-replicate}
use Rattle.std.proofs.lemmas.List.Elements.{All-nil, All-cons, All-head, All-tail, All-map, All-weaker}
use Rattle.text_lines.specs.Columns.{text_columns}
use Rattle.text_lines.specs.Tagged.{Item, tagged, characters, line_columns}
use Rattle.text_pieces.specs.Items.{has_text}
use Rattle.text_pieces.specs.Sources.{is_filled}
use Rattle.text_pieces.proofs.ItemColumns.{line_columns-append}
use Rattle.text_borders.specs.Segments.{Segment}
use Rattle.text_borders.specs.Borders.{Border, horizontal, plain, filled_to, shown}
use Rattle.text_borders.specs.BorderLaws.{IsSound}
use Rattle.text_borders.specs.Lines.{BlockLine, text, border, line_shown}
use Rattle.text_borders.specs.Across.{CellLine, Cell, Hanging, Row, as_text, across, width_across}
use Rattle.text_borders.specs.AcrossLaws.{LineFits, CellFits}
use Rattle.text_borders.proofs.AcrossLemmas.{retagged_columns}
use Rattle.block_layout.specs.declared.measure.Measure.{Measure}
use Rattle.block_layout.specs.Laid.{Laid, add_block, add_border, add_horizontal_border, add_prefixed, content_as_text}
use Rattle.block_layout.specs.Laid.{finished, finished_lines, flush, without_hanging}
use Rattle.block_layout.specs.LaidRows.{add_row, add_row_line, add_row_lines, add_slashes, before_last, border_line}
use Rattle.block_layout.specs.LaidRows.{last_border, row_laid, with_border, with_row, without_last_border}
use Rattle.block_layout_laws.specs.LayoutLaws.{IsKept, IsWithin}
use Rattle.block_layout_laws.proofs.OptionLemmas.{mapped}
use Rattle.block_layout_laws.proofs.WidthLemmas.{TextLaws, Fits, line_put, line_added, flushed, none_hang}

-- what the crate below says of borders
pub record BorderLaws (S : Type 0) : Type 0 where
  pub shown : (b : Border S) → IsSound b → line_columns (shown b) ≡ length b.segments
  pub filled_width : (width : ℕ) (b : Border S)
      → length (filled_to width b).segments ≡ max (length b.segments) width
  pub filled_sound : (width : ℕ) (b : Border S) → IsSound b → IsSound (filled_to width b)

-- what it says of rows
pub record RowLaws (S : Type 0) : Type 0 where
  pub lines : (draws collapse : Bool) (tag : S) (above : Option (Border S)) (cells : List (Cell S))
      (hanging : List (Hanging S)) → All CellFits cells → All (λ h. CellFits h.cell) hanging
      → All (λ l. line_columns l ≡ width_across collapse tag above cells hanging)
      (across draws collapse tag above cells hanging).lines
  pub below_width : (draws collapse : Bool) (tag : S) (above : Option (Border S)) (cells : List (Cell S))
      (hanging : List (Hanging S)) → All CellFits cells → All (λ h. CellFits h.cell) hanging
      → length (across draws collapse tag above cells hanging).below.segments
      ≡ width_across collapse tag above cells hanging
  pub below_sound : (draws collapse : Bool) (tag : S) (above : Option (Border S)) (cells : List (Cell S))
      (hanging : List (Hanging S)) → All CellFits cells → All (λ h. CellFits h.cell) hanging
      → IsSound (across draws collapse tag above cells hanging).below
  pub above_width : (draws collapse : Bool) (tag : S) (above : Border S) (cells : List (Cell S))
      (hanging : List (Hanging S)) → All CellFits cells → All (λ h. CellFits h.cell) hanging
      → IfSome (across draws collapse tag (Some above) cells hanging).above (λ new. length new.segments
      ≡ max (length above.segments) (width_across collapse tag (Some above) cells hanging))
  pub above_sound : (draws collapse : Bool) (tag : S) (above : Border S) (cells : List (Cell S))
      (hanging : List (Hanging S)) → All CellFits cells → All (λ h. CellFits h.cell) hanging → IsSound above
      → IfSome (across draws collapse tag (Some above) cells hanging).above IsSound
  pub hanging : (draws collapse : Bool) (tag : S) (above : Option (Border S)) (cells : List (Cell S))
      (hanging : List (Hanging S)) → All CellFits cells → All (λ h. CellFits h.cell) hanging
      → All (λ h. CellFits h.cell) (across draws collapse tag above cells hanging).hanging

-- ---- borders

abbrev BorderFits : {S : Type 0} → ℕ → Border S → Type 0
BorderFits width b = LineFits width (border b)

pub border_added : {S : Type 0} (m : Measure) (new : Border S) (b : Laid S) → BorderFits m.width new → IsWithin m b
    → IsWithin m (add_border new b)
border_added m new b fits within = line_put m (border new) _ b fits within

plain_fits : {S : Type 0} (segment : Segment) (width most : ℕ) (tag : S) → width ≤ most
    → BorderFits most (plain segment width tag)
plain_fits segment width most tag h = (omega arith, omega (arith, h, length-replicate width segment))

pub horizontal_added : {S : Type 0} (laws : TextLaws S) (m : Measure) (tag : S) (width : ℕ) (b : Laid S)
    → width ≤ m.width → IsKept m → IsWithin m b → IfSome (add_horizontal_border m tag width b) (IsWithin m)
horizontal_added laws m tag width b h kept within =
    mapped (IsWithin m) (IsWithin m) (add_border (plain horizontal width tag)) (flush m tag b)
    (λ x inside. border_added m (plain horizontal width tag) x (plain_fits horizontal width m.width tag h) inside)
    (flushed laws m tag b kept within)

pub slashes_added : {S : Type 0} (m : Measure) (tag : S) (width : ℕ) (b : Laid S) → width ≤ m.width → IsWithin m b
    → IsWithin m (add_slashes width tag b)
slashes_added m tag width b h within =
    border_added m (plain None width tag) b (plain_fits None width m.width tag h) within

-- ---- lines that are finished

finished_fits : {S : Type 0} (borders : BorderLaws S) (m : Measure) (l : BlockLine S) → LineFits m.width l
    → LineFits m.width (finished m l)
finished_fits borders m (text items) fits = fits
finished_fits borders m (border b) fits = by_padding m.pads
  where
    by_padding : (pads : Bool) → BorderFits m.width (if pads then filled_to m.width b else b)
    by_padding true =
        (borders.filled_sound m.width b fits.0, omega (arith, borders.filled_width m.width b, fits.1))
    by_padding false = fits

shown_fits : {S : Type 0} (borders : BorderLaws S) (width : ℕ) (l : BlockLine S) → LineFits width l
    → line_columns (line_shown l) ≤ width
shown_fits borders width (text items) fits = fits
shown_fits borders width (border b) fits = omega (arith, borders.shown b fits.0, fits.1)

text_fits : {S : Type 0} (borders : BorderLaws S) (width : ℕ) (tag : S) (l : BlockLine S) → LineFits width l
    → line_columns (as_text tag l) ≤ width
text_fits borders width tag (text items) fits = fits
text_fits borders width tag (border b) fits =
    omega (arith, retagged_columns tag (shown b), borders.shown b fits.0, fits.1)

pub lines_finished : {S : Type 0} (laws : TextLaws S) (borders : BorderLaws S) (m : Measure) (tag : S) (b : Laid S)
    → IsKept m → IsWithin m b
    → IfSome (finished_lines m tag b) (λ lines. All (λ l. line_columns (line_shown l) ≤ m.width) lines)
lines_finished {S = S} laws borders m tag b kept within =
    mapped (IsWithin m) (λ lines. All (λ (l : BlockLine S). line_columns (line_shown l) ≤ m.width) lines) _
    (flush m tag b)
    (λ x inside. All-map (λ (l : BlockLine S). line_columns (line_shown l) ≤ m.width)
    (λ (l : CellLine S). finished m l.line) x.lines
    (All-weaker (Fits m.width) (λ (l : CellLine S). line_columns (line_shown (finished m l.line)) ≤ m.width)
    (λ l fits. shown_fits borders m.width (finished m l.line) (finished_fits borders m l.line fits)) x.lines
    inside.lines)) (flushed laws m tag b kept within)

-- ---- other blocks

tagged_columns : {S : Type 0} (cs : List ℕ) (tag : S) → line_columns (tagged cs tag) ≡ text_columns cs
tagged_columns cs tag = ap text_columns (same cs)
  where
    same : (cs : List ℕ) → characters (tagged cs tag) ≡ cs
    same [] = refl
    same (c ∷ cs) = ap (λ ds. c ∷ ds) (same cs)

prefixed : {S : Type 0} (laws : TextLaws S) (borders : BorderLaws S) (other m : Measure) (tag : S) (prefix : List ℕ)
    (b : Laid S) (l : CellLine S) → text_columns prefix + other.width ≤ m.width → Fits other.width l → IsWithin m b
    → IsWithin m (add_prefixed other m tag prefix b l)
prefixed laws borders other m tag prefix b l room fits within =
    let items = as_text tag (finished other l.line) in
    let fit = text_fits borders other.width tag (finished other l.line) (finished_fits borders other l.line fits) in
    line_added laws m tag (content_as_text l.line l.content || is_filled prefix) (tagged prefix tag ++ items) b
    (omega (arith, line_columns-append (tagged prefix tag) items, tagged_columns prefix tag, fit, room)) within

all_prefixed : {S : Type 0} (laws : TextLaws S) (borders : BorderLaws S) (other m : Measure) (tag : S) (prefix : List ℕ)
    (lines : List (CellLine S)) (b : Laid S) → text_columns prefix + other.width ≤ m.width
    → All (Fits other.width) lines → IsWithin m b → IsWithin m (fold (add_prefixed other m tag prefix) b lines)
all_prefixed laws borders other m tag prefix [] b room fit within = within
all_prefixed laws borders other m tag prefix (l ∷ lines) b room fit within =
    all_prefixed laws borders other m tag prefix lines (add_prefixed other m tag prefix b l) room
    (All-tail (Fits other.width) l lines fit)
    (prefixed laws borders other m tag prefix b l room (All-head (Fits other.width) l lines fit) within)

pub block_added : {S : Type 0} (laws : TextLaws S) (borders : BorderLaws S) (other m : Measure) (tag : S)
    (first following : List ℕ) (lines : List (CellLine S)) (b : Laid S)
    → text_columns first + other.width ≤ m.width → text_columns following + other.width ≤ m.width
    → All (Fits other.width) lines → IsWithin m b → IsWithin m (add_block other m tag first following lines b)
block_added laws borders other m tag first following [] b here trailing fit within = within
block_added laws borders other m tag first following (l ∷ lines) b here trailing fit within =
    all_prefixed laws borders other m tag following lines (add_prefixed other m tag first b l) trailing
    (All-tail (Fits other.width) l lines fit)
    (prefixed laws borders other m tag first b l here (All-head (Fits other.width) l lines fit) within)

-- ---- the border above a row

line_as_border : {S : Type 0} (width : ℕ) (l : BlockLine S) → LineFits width l
    → IfSome (border_line l) (BorderFits width)
line_as_border width (text items) fits = tt
line_as_border width (border b) fits = fits

last_fits : {S : Type 0} (width : ℕ) (above : Option (Border S)) (lines : List (CellLine S))
    → IfSome above (BorderFits width) → All (Fits width) lines
    → IfSome (fold (λ _ l. border_line l.line) above lines) (BorderFits width)
last_fits width above [] h fit = h
last_fits width above (l ∷ lines) h fit =
    last_fits width (border_line l.line) lines (line_as_border width l.line (All-head (Fits width) l lines fit))
    (All-tail (Fits width) l lines fit)

front_fits : {S : Type 0} (width : ℕ) (lines : List (CellLine S)) → All (Fits width) lines
    → All (Fits width) (before_last lines)
front_fits width [] fit = fit
front_fits width (l ∷ []) fit = All-nil (Fits width)
front_fits width (l ∷ next ∷ lines) fit =
    All-cons (Fits width) l (before_last (next ∷ lines)) (All-head (Fits width) l (next ∷ lines) fit)
    (front_fits width (next ∷ lines) (All-tail (Fits width) l (next ∷ lines) fit))

border_less : {S : Type 0} (m : Measure) (above : Option (Border S)) (b : Laid S) → IsWithin m b
    → IsWithin m (without_last_border above b)
border_less m None b within = within
border_less m (Some above) b within = record {
  lines = front_fits m.width b.lines within.lines;
  running = within.running;
  hanging = within.hanging;
}

joined_fits : {S : Type 0} (rows : RowLaws S) (width : ℕ) (draws collapse : Bool) (tag : S) (above : Option (Border S))
    (cells : List (Cell S)) (hanging : List (Hanging S)) → All CellFits cells → All (λ h. CellFits h.cell) hanging
    → IfSome above (BorderFits width) → width_across collapse tag above cells hanging ≤ width
    → IfSome (across draws collapse tag above cells hanging).above (BorderFits width)
joined_fits rows width draws collapse tag None cells hanging all hangs fits wide = tt
joined_fits rows width draws collapse tag (Some above) cells hanging all hangs fits wide = (
  rows.above_sound draws collapse tag above cells hanging all hangs fits.0,
  omega (arith, rows.above_width draws collapse tag above cells hanging all hangs, fits.1, wide),
)

-- ---- rows

border_given : {S : Type 0} (m : Measure) (new : Option (Border S)) (b : Laid S) → IfSome new (BorderFits m.width)
    → IsWithin m b → IsWithin m (with_border new b)
border_given m None b fits within = within
border_given m (Some new) b fits within = border_added m new b fits within

row_lines_added : {S : Type 0} (laws : TextLaws S) (m : Measure) (tag : S) (lines : List (List (Item S))) (b : Laid S)
    → All (λ l. line_columns l ≤ m.width) lines → IsWithin m b → IsWithin m (add_row_lines m tag lines b)
row_lines_added laws m tag [] b fit within = within
row_lines_added {S = S} laws m tag (l ∷ lines) b fit within =
    row_lines_added laws m tag lines (add_row_line m tag b l)
    (All-tail (λ (x : List (Item S)). line_columns x ≤ m.width) l lines fit)
    (line_added laws m tag (has_text l) l b
    (All-head (λ (x : List (Item S)). line_columns x ≤ m.width) l lines fit) within)

-- of a row that is to stand in a block, what must fit
record RowFits {S : Type 0} (width : ℕ) (row : Row S) : Type 0 where
  above : IfSome row.above (BorderFits width)
  lines : All (λ l. line_columns l ≤ width) row.lines
  below : BorderFits width row.below
  hanging : All (λ h. CellFits h.cell) row.hanging

row_put : {S : Type 0} (laws : TextLaws S) (m : Measure) (tag : S) (draws : Bool) (row : Row S) (b : Laid S)
    → RowFits m.width row → IsWithin m b → IsWithin m (with_row m tag draws row b)
row_put {S = S} laws m tag draws row b fits within = by_borders draws
  where
    standing : IsWithin m (add_row_lines m tag row.lines (with_border row.above b))
    standing = row_lines_added laws m tag row.lines (with_border row.above b) fits.lines
        (border_given m row.above b fits.above within)

    closed : (below : Option (Border S)) → IfSome below (BorderFits m.width)
        → IsWithin m (record (with_border below (add_row_lines m tag row.lines (with_border row.above b))) {
          hanging = row.hanging;
        })
    closed below h =
        let put = border_given m below (add_row_lines m tag row.lines (with_border row.above b)) h standing in
        record { lines = put.lines; running = put.running; hanging = fits.hanging }

    by_borders : (t : Bool) → IsWithin m (record (with_border (if t then Some row.below else None)
        (add_row_lines m tag row.lines (with_border row.above b))) { hanging = row.hanging })
    by_borders true = closed (Some row.below) fits.below
    by_borders false = closed None tt

row_fits : {S : Type 0} (rows : RowLaws S) (width : ℕ) (draws collapse : Bool) (tag : S) (above : Option (Border S))
    (cells : List (Cell S)) (hanging : List (Hanging S)) → All CellFits cells → All (λ h. CellFits h.cell) hanging
    → IfSome above (BorderFits width) → width_across collapse tag above cells hanging ≤ width
    → RowFits width (across draws collapse tag above cells hanging)
row_fits {S = S} rows width draws collapse tag above cells hanging all hangs fits wide = record {
  above = joined_fits rows width draws collapse tag above cells hanging all hangs fits wide;
  lines = All-weaker (λ (l : List (Item S)). line_columns l ≡ width_across collapse tag above cells hanging)
      (λ (l : List (Item S)). line_columns l ≤ width) (λ l same. omega (arith, same, wide))
      (across draws collapse tag above cells hanging).lines
      (rows.lines draws collapse tag above cells hanging all hangs);
  below = (
    rows.below_sound draws collapse tag above cells hanging all hangs,
    omega (arith, rows.below_width draws collapse tag above cells hanging all hangs, wide),
  );
  hanging = rows.hanging draws collapse tag above cells hanging all hangs;
}

pub row_added : {S : Type 0} (laws : TextLaws S) (rows : RowLaws S) (m : Measure) (tag : S) (draws collapse : Bool)
    (cells : List (Cell S)) (b : Laid S) → All CellFits cells
    → width_across collapse tag (last_border b.lines) cells b.hanging ≤ m.width → IsWithin m b
    → IsWithin m (row_laid m tag draws collapse cells b)
row_added laws rows m tag draws collapse cells b all wide within =
    let above = last_border b.lines in
    row_put laws m tag draws (across draws collapse tag above cells b.hanging)
    (without_hanging (without_last_border above b))
    (row_fits rows m.width draws collapse tag above cells b.hanging all within.hanging
    (last_fits m.width None b.lines tt within.lines) wide)
    (none_hang m (without_last_border above b) (border_less m above b within))

pub row_of_flushed : {S : Type 0} (laws : TextLaws S) (rows : RowLaws S) (m : Measure) (tag : S) (draws collapse : Bool)
    (cells : List (Cell S)) (b mid new : Laid S) → IsKept m → IsWithin m b → All CellFits cells
    → flush m tag b ≡ Some mid → width_across collapse tag (last_border mid.lines) cells mid.hanging ≤ m.width
    → add_row m tag draws collapse cells b ≡ Some new → IsWithin m new
row_of_flushed laws rows m tag draws collapse cells b mid new kept within all is wide added =
    let same : row_laid m tag draws collapse cells mid ≡ new =
    same_Some (row_laid m tag draws collapse cells mid) new
    (sym (ap (option_map (row_laid m tag draws collapse cells)) is) ∙ added) in
    subst (IsWithin m) same (row_added laws rows m tag draws collapse cells mid all wide
    (MatchOption-at_some ⊤ (IsWithin m) mid is (flushed laws m tag b kept within)))
