-- Borders, other blocks and rows keep the lines of a block without a control character.
use Rattle.std.proofs.Common.{◌||◌, [], ◌∷◌, ◌++◌, if◌then◌else◌, All, Bool, IfSome, List, None, Option, Some, false}
use Rattle.std.proofs.Common.{true, ℕ}
use Rattle.std.specs.Prelude.{fold}
use Rattle.std.proofs.lemmas.List.Elements.{All-cons, All-head, All-map, All-nil, All-tail, All-weaker}
use Rattle.text_lines.specs.Tagged.{Item, tagged}
use Rattle.text_pieces.specs.Items.{has_text}
use Rattle.text_pieces.specs.Sources.{is_filled}
use Rattle.text_borders.specs.Segments.{Segment}
use Rattle.text_borders.specs.Borders.{Border, Hole, filled_to, horizontal, plain}
use Rattle.text_borders.specs.Lines.{BlockLine, border, line_shown, text}
use Rattle.text_borders.specs.Across.{Cell, CellLine, Row, across, as_text}
use Rattle.block_layout.specs.declared.measure.Measure.{Measure}
use Rattle.block_layout.specs.Laid.{Laid, add_block, add_border, add_horizontal_border, add_prefixed, content_as_text}
use Rattle.block_layout.specs.Laid.{finished, finished_lines, flush, without_hanging}
use Rattle.block_layout.specs.LaidRows.{add_row, add_row_line, add_row_lines, add_slashes, before_last, border_line}
use Rattle.block_layout.specs.LaidRows.{last_border, row_laid, with_border, with_row, without_last_border}
use Rattle.block_layout_laws.proofs.OptionLemmas.{mapped}
use Rattle.printed_block_laws.specs.Printed.{ArePrinted, IsPrinted, IsPrintedBlock, IsPrintedCell, IsPrintedLine}
use Rattle.printed_block_laws.proofs.PrintedItems.{printed_both, printed_tagged}
use Rattle.printed_block_laws.proofs.BorderTexts.{AreHolesPrinted, as_text_printed, filled_printed, line_shown_printed}
use Rattle.printed_block_laws.proofs.RowsAcross.{IsCellLinePrinted, IsRowPrinted, across_printed}
use Rattle.printed_block_laws.proofs.LaidPrinted.{flushed, line_added, line_put, none_hang}

abbrev IsBorderPrinted : {S : Type 0} → Border S → Type 0
IsBorderPrinted b = AreHolesPrinted b.holes

-- ---- borders

pub border_added : {S : Type 0} (new : Border S) (b : Laid S) → IsPrintedLine (border new) → IsPrintedBlock b
    → IsPrintedBlock (add_border new b)
border_added new b here h = line_put (border new) _ b here h

plain_added : {S : Type 0} (segment : Segment) (width : ℕ) (tag : S) (b : Laid S) → IsPrintedBlock b
    → IsPrintedBlock (add_border (plain segment width tag) b)
plain_added {S = S} segment width tag b h =
    border_added (plain segment width tag) b (All-nil (λ (x : Hole S). ArePrinted x.items)) h

pub horizontal_added : {S : Type 0} (m : Measure) (tag : S) (width : ℕ) (b : Laid S) → IsPrintedBlock b
    → IfSome (add_horizontal_border m tag width b) IsPrintedBlock
horizontal_added m tag width b h =
    mapped IsPrintedBlock IsPrintedBlock (add_border (plain horizontal width tag)) (flush m tag b)
    (λ x printed. plain_added horizontal width tag x printed) (flushed m tag b h)

pub slashes_added : {S : Type 0} (tag : S) (width : ℕ) (b : Laid S) → IsPrintedBlock b
    → IsPrintedBlock (add_slashes width tag b)
slashes_added tag width b h = plain_added None width tag b h

-- ---- lines that are finished

finished_printed : {S : Type 0} (m : Measure) (l : BlockLine S) → IsPrintedLine l → IsPrintedLine (finished m l)
finished_printed m (text items) h = h
finished_printed m (border b) h = by_padding m.pads
  where
    by_padding : (pads : Bool) → IsBorderPrinted (if pads then filled_to m.width b else b)
    by_padding true = filled_printed m.width b h
    by_padding false = h

pub lines_finished : {S : Type 0} (m : Measure) (tag : S) (b : Laid S) → IsPrintedBlock b
    → IfSome (finished_lines m tag b) (λ lines. All (λ l. ArePrinted (line_shown l)) lines)
lines_finished {S = S} m tag b h =
    mapped IsPrintedBlock (λ lines. All (λ (l : BlockLine S). ArePrinted (line_shown l)) lines) _ (flush m tag b)
    (λ x printed. All-map (λ (l : BlockLine S). ArePrinted (line_shown l)) (λ (l : CellLine S). finished m l.line)
    x.lines (All-weaker IsCellLinePrinted (λ (l : CellLine S). ArePrinted (line_shown (finished m l.line)))
    (λ l here. line_shown_printed (finished m l.line) (finished_printed m l.line here)) x.lines printed.lines))
    (flushed m tag b h)

-- ---- other blocks

prefixed : {S : Type 0} (other m : Measure) (tag : S) (prefix : List ℕ) (b : Laid S) (l : CellLine S)
    → All IsPrinted prefix → IsPrintedLine l.line → IsPrintedBlock b
    → IsPrintedBlock (add_prefixed other m tag prefix b l)
prefixed other m tag prefix b l before here h =
    let items = as_text tag (finished other l.line) in
    line_added m tag (content_as_text l.line l.content || is_filled prefix) (tagged prefix tag ++ items) b
    (printed_both (tagged prefix tag) items (printed_tagged prefix tag before)
    (as_text_printed tag (finished other l.line) (finished_printed other l.line here))) h

all_prefixed : {S : Type 0} (other m : Measure) (tag : S) (prefix : List ℕ) (lines : List (CellLine S)) (b : Laid S)
    → All IsPrinted prefix → All IsCellLinePrinted lines → IsPrintedBlock b
    → IsPrintedBlock (fold (add_prefixed other m tag prefix) b lines)
all_prefixed other m tag prefix [] b before all h = h
all_prefixed other m tag prefix (l ∷ lines) b before all h =
    all_prefixed other m tag prefix lines (add_prefixed other m tag prefix b l) before
    (All-tail IsCellLinePrinted l lines all)
    (prefixed other m tag prefix b l before (All-head IsCellLinePrinted l lines all) h)

pub block_added : {S : Type 0} (other m : Measure) (tag : S) (first following : List ℕ) (lines : List (CellLine S))
    (b : Laid S) → All IsPrinted first → All IsPrinted following → All IsCellLinePrinted lines → IsPrintedBlock b
    → IsPrintedBlock (add_block other m tag first following lines b)
block_added other m tag first following [] b before trailing all h = h
block_added other m tag first following (l ∷ lines) b before trailing all h =
    all_prefixed other m tag following lines (add_prefixed other m tag first b l) trailing
    (All-tail IsCellLinePrinted l lines all)
    (prefixed other m tag first b l before (All-head IsCellLinePrinted l lines all) h)

-- ---- the border above a row

line_as_border : {S : Type 0} (l : BlockLine S) → IsPrintedLine l → IfSome (border_line l) IsBorderPrinted
line_as_border (text items) h = tt
line_as_border (border b) h = h

last_printed : {S : Type 0} (above : Option (Border S)) (lines : List (CellLine S)) → IfSome above IsBorderPrinted
    → All IsCellLinePrinted lines → IfSome (fold (λ _ l. border_line l.line) above lines) IsBorderPrinted
last_printed above [] h all = h
last_printed above (l ∷ lines) h all =
    last_printed (border_line l.line) lines (line_as_border l.line (All-head IsCellLinePrinted l lines all))
    (All-tail IsCellLinePrinted l lines all)

front_printed : {S : Type 0} (lines : List (CellLine S)) → All IsCellLinePrinted lines
    → All IsCellLinePrinted (before_last lines)
front_printed [] all = all
front_printed (l ∷ []) all = All-nil IsCellLinePrinted
front_printed (l ∷ next ∷ lines) all =
    All-cons IsCellLinePrinted l (before_last (next ∷ lines)) (All-head IsCellLinePrinted l (next ∷ lines) all)
    (front_printed (next ∷ lines) (All-tail IsCellLinePrinted l (next ∷ lines) all))

border_less : {S : Type 0} (above : Option (Border S)) (b : Laid S) → IsPrintedBlock b
    → IsPrintedBlock (without_last_border above b)
border_less None b h = h
border_less (Some above) b h =
    record { lines = front_printed b.lines h.lines; running = h.running; hanging = h.hanging }

-- ---- rows

border_given : {S : Type 0} (new : Option (Border S)) (b : Laid S) → IfSome new IsBorderPrinted → IsPrintedBlock b
    → IsPrintedBlock (with_border new b)
border_given None b here h = h
border_given (Some new) b here h = border_added new b here h

row_lines_added : {S : Type 0} (m : Measure) (tag : S) (lines : List (List (Item S))) (b : Laid S)
    → All ArePrinted lines → IsPrintedBlock b → IsPrintedBlock (add_row_lines m tag lines b)
row_lines_added m tag [] b all h = h
row_lines_added m tag (l ∷ lines) b all h =
    row_lines_added m tag lines (add_row_line m tag b l) (All-tail ArePrinted l lines all)
    (line_added m tag (has_text l) l b (All-head ArePrinted l lines all) h)

row_put : {S : Type 0} (m : Measure) (tag : S) (draws : Bool) (row : Row S) (b : Laid S) → IsRowPrinted row
    → IsPrintedBlock b → IsPrintedBlock (with_row m tag draws row b)
row_put {S = S} m tag draws row b here h = by_borders draws
  where
    standing : IsPrintedBlock (add_row_lines m tag row.lines (with_border row.above b))
    standing = row_lines_added m tag row.lines (with_border row.above b) here.lines
        (border_given row.above b here.above h)

    closed : (below : Option (Border S)) → IfSome below IsBorderPrinted
        → IsPrintedBlock (record (with_border below (add_row_lines m tag row.lines (with_border row.above b))) {
          hanging = row.hanging;
        })
    closed below under =
        let put = border_given below (add_row_lines m tag row.lines (with_border row.above b)) under standing in
        record { lines = put.lines; running = put.running; hanging = here.hanging }

    by_borders : (t : Bool) → IsPrintedBlock (record (with_border (if t then Some row.below else None)
        (add_row_lines m tag row.lines (with_border row.above b))) { hanging = row.hanging })
    by_borders true = closed (Some row.below) here.below
    by_borders false = closed None tt

row_added : {S : Type 0} (m : Measure) (tag : S) (draws collapse : Bool) (cells : List (Cell S)) (b : Laid S)
    → All IsPrintedCell cells → IsPrintedBlock b → IsPrintedBlock (row_laid m tag draws collapse cells b)
row_added m tag draws collapse cells b all h =
    let above = last_border b.lines in
    row_put m tag draws (across draws collapse tag above cells b.hanging)
    (without_hanging (without_last_border above b))
    (across_printed draws collapse tag above cells b.hanging (last_printed None b.lines tt h.lines) all h.hanging)
    (none_hang (without_last_border above b) (border_less above b h))

pub row_of_flushed : {S : Type 0} (m : Measure) (tag : S) (draws collapse : Bool) (cells : List (Cell S)) (b : Laid S)
    → All IsPrintedCell cells → IsPrintedBlock b → IfSome (add_row m tag draws collapse cells b) IsPrintedBlock
row_of_flushed m tag draws collapse cells b all h =
    mapped IsPrintedBlock IsPrintedBlock (row_laid m tag draws collapse cells) (flush m tag b)
    (λ x printed. row_added m tag draws collapse cells x all printed) (flushed m tag b h)
