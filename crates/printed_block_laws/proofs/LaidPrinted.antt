-- Each call keeps the lines of a block without a control character, whatever text it adds.
use Rattle.std.proofs.Common.{◌&&◌, [], ◌∷◌, ◌++◌, if◌then◌else◌, All, Bool, IfSome, List, None, Option, Some}
use Rattle.std.proofs.Common.{false, map, true, ℕ}
use Rattle.std.specs.Option.{option_map}
use Rattle.std.proofs.lemmas.List.Elements.{All-head, All-nil, All-push, All-tail}
use Rattle.text_lines.specs.Tagged.{Item, marker}
use Rattle.text_pieces.specs.Items.{has_text}
use Rattle.text_pieces.specs.Sources.{is_filled}
use Rattle.text_pieces.specs.declared.white_space.WhiteSpace.{WhiteSpace}
use Rattle.text_preserved.specs.Preserved.{names_of}
use Rattle.text_wrapping.specs.Blocks.{Block, added, broken, ended, ended_lines, ends_in_columns, fragments_taken}
use Rattle.text_wrapping.specs.Blocks.{padded, without_source}
use Rattle.text_wrapping.specs.Lines.{lines_in}
use Rattle.text_borders.specs.Lines.{BlockLine, text}
use Rattle.text_borders.specs.Across.{CellLine}
use Rattle.block_layout.specs.declared.measure.Measure.{Measure}
use Rattle.block_layout.specs.Laid.{Laid, Running, add_empty_line, add_line, add_text, add_text_line, add_text_lines}
use Rattle.block_layout.specs.Laid.{after_empty_line, break_line, break_of, broken_line, end_block, enter_mode, flush}
use Rattle.block_layout.specs.Laid.{flush_of, has_content, laid_text, lines_after, mark, nothing_laid, padding, parted}
use Rattle.block_layout.specs.Laid.{run_on, running_or_new, runs_otherwise, start_awaited, start_block, start_table}
use Rattle.block_layout.specs.Laid.{started, text_laid, with_added, with_line, with_marker, with_running, with_text_of}
use Rattle.block_layout.specs.Laid.{without_hanging, without_running}
use Rattle.block_layout_laws.proofs.OptionLemmas.{chained, mapped}
use Rattle.printed_block_laws.specs.Printed.{ArePrinted, IsPrintedBlock, IsPrintedLine}
use Rattle.printed_block_laws.proofs.PrintedItems.{none_printed, printed_after_markers}
use Rattle.printed_block_laws.proofs.BlockTexts.{IsPrintedText, added_printed, ended_lines_printed, ended_printed}
use Rattle.printed_block_laws.proofs.BlockTexts.{padded_printed}
use Rattle.printed_block_laws.proofs.RowsAcross.{IsCellLinePrinted, IsHangingPrinted}

abbrev RunsPrinted : {S : Type 0} → Running S → Type 0
RunsPrinted r = IsPrintedText r.text

-- ---- lines

pub line_put : {S : Type 0} (line : BlockLine S) (content : Bool) (b : Laid S) → IsPrintedLine line
    → IsPrintedBlock b → IsPrintedBlock (with_line line content b)
line_put {S = S} line content b here h =
    let l : CellLine S = record { line = line; content = content } in
    record { lines = All-push IsCellLinePrinted b.lines l h.lines here; running = h.running; hanging = h.hanging }

pub line_added : {S : Type 0} (m : Measure) (tag : S) (content : Bool) (items : List (Item S)) (b : Laid S)
    → ArePrinted items → IsPrintedBlock b → IsPrintedBlock (add_line m tag content items b)
line_added {S = S} m tag content items b here h =
    let line : List (Item S) = map (λ name. marker name) b.markers ++ items in
    let put = line_put (text (padded m.width (padding m tag) line)) content b
    (padded_printed m.width (padding m tag) line (printed_after_markers b.markers items here)) h in
    record { lines = put.lines; running = put.running; hanging = put.hanging }

-- ---- the running text becomes lines

pub lines_added : {S : Type 0} (m : Measure) (tag fill : S) (lines : List (List (Item S))) (b : Laid S)
    → All ArePrinted lines → IsPrintedBlock b → IsPrintedBlock (add_text_lines m tag fill lines b)
lines_added m tag fill [] b all h = h
lines_added m tag fill (line ∷ lines) b all h =
    lines_added m tag fill lines (add_text_line m tag fill b line) (All-tail ArePrinted line lines all)
    (line_added m tag (has_text line) (padded m.wrap_width (padding m fill) line) b
    (padded_printed m.wrap_width (padding m fill) line (All-head ArePrinted line lines all)) h)

text_lines_printed : {S : Type 0} (source : Block S) → IsPrintedText source
    → IfSome (laid_text source) (λ laid. All ArePrinted laid.1)
text_lines_printed {S = S} source h =
    chained (λ taken. IsPrintedText taken.1) (λ laid. All ArePrinted laid.1) lines_after (fragments_taken source)
    (λ taken all. mapped (All ArePrinted) (λ laid. All ArePrinted laid.1)
    (λ (lines : List (List (Item S))). (taken.0, lines)) (ended_lines taken.1) (λ lines all. all)
    (ended_lines_printed taken.1 all))
    (mapped IsPrintedText (λ taken. IsPrintedText taken.1)
    (λ (e : Block S). (names_of e.source, without_source e)) (ended source) (λ e all. all) (ended_printed source h))

flushed_of : {S : Type 0} (m : Measure) (tag : S) (running : Option (Running S)) (b : Laid S)
    → IfSome running RunsPrinted → IsPrintedBlock b → IfSome (flush_of m tag running b) IsPrintedBlock
flushed_of m tag None b runs h = h
flushed_of {S = S} m tag (Some r) b runs h =
    mapped (λ laid. All ArePrinted laid.1) IsPrintedBlock (text_laid m tag r.fill b) (laid_text r.text)
    (λ laid all. let put = lines_added m tag r.fill laid.1 b all h in
    record { lines = put.lines; running = put.running; hanging = put.hanging })
    (text_lines_printed r.text runs)

pub flushed : {S : Type 0} (m : Measure) (tag : S) (b : Laid S) → IsPrintedBlock b
    → IfSome (flush m tag b) IsPrintedBlock
flushed m tag b h =
    flushed_of m tag b.running (without_running b) h.running
    (record { lines = h.lines; running = tt; hanging = h.hanging })

-- ---- blocks

pub nothing_printed : {S : Type 0} → IsPrintedBlock {S = S} nothing_laid
nothing_printed = record {
  lines = All-nil IsCellLinePrinted;
  running = tt;
  hanging = All-nil IsHangingPrinted;
}

started_printed : {S : Type 0} (b : Laid S) → IsPrintedBlock b → IsPrintedBlock (started b)
started_printed b h = record { lines = h.lines; running = h.running; hanging = h.hanging }

emptied_printed : {S : Type 0} (m : Measure) (tag : S) (b : Laid S) → IsPrintedBlock b
    → IsPrintedBlock (after_empty_line m tag b)
emptied_printed m tag b h =
    started_printed (add_line m tag false [] b) (line_added m tag false [] b none_printed h)

pub empty_line_added : {S : Type 0} (m : Measure) (tag : S) (b : Laid S) → IsPrintedBlock b
    → IfSome (add_empty_line m tag b) IsPrintedBlock
empty_line_added m tag b h =
    mapped IsPrintedBlock IsPrintedBlock (after_empty_line m tag) (flush m tag b)
    (λ x printed. emptied_printed m tag x printed) (flushed m tag b h)

parted_printed : {S : Type 0} (m : Measure) (tag : S) (b : Laid S) → IsPrintedBlock b → IsPrintedBlock (parted m tag b)
parted_printed m tag b h = by_content (has_content b.lines)
  where
    by_content : (t : Bool) → IsPrintedBlock (if t then after_empty_line m tag b else started b)
    by_content true = emptied_printed m tag b h
    by_content false = started_printed b h

pub block_started : {S : Type 0} (m : Measure) (tag : S) (b : Laid S) → IsPrintedBlock b
    → IfSome (start_block m tag b) IsPrintedBlock
block_started m tag b h =
    mapped IsPrintedBlock IsPrintedBlock (parted m tag) (flush m tag b) (λ x printed. parted_printed m tag x printed)
    (flushed m tag b h)

pub none_hang : {S : Type 0} (b : Laid S) → IsPrintedBlock b → IsPrintedBlock (without_hanging b)
none_hang b h = record { lines = h.lines; running = h.running; hanging = All-nil IsHangingPrinted }

pub table_started : {S : Type 0} (m : Measure) (tag : S) (b : Laid S) → IsPrintedBlock b
    → IfSome (start_table m tag b) IsPrintedBlock
table_started m tag b h =
    mapped IsPrintedBlock IsPrintedBlock without_hanging (start_block m tag b) (λ x printed. none_hang x printed)
    (block_started m tag b h)

pub block_ended : {S : Type 0} (b : Laid S) → IsPrintedBlock b → IsPrintedBlock (end_block b)
block_ended b h = record { lines = h.lines; running = h.running; hanging = h.hanging }

pub awaited_started : {S : Type 0} (m : Measure) (tag : S) (b : Laid S) → IsPrintedBlock b
    → IfSome (start_awaited m tag b) IsPrintedBlock
awaited_started m tag b h = by_end b.awaits
  where
    by_end : (t : Bool) → IfSome (if t then start_block m tag b else Some b) IsPrintedBlock
    by_end true = block_started m tag b h
    by_end false = h

-- ---- text

running_put : {S : Type 0} (b : Laid S) (r : Running S) → IsPrintedBlock b → RunsPrinted r
    → IsPrintedBlock (with_running b r)
running_put b r h runs = record { lines = h.lines; running = runs; hanging = h.hanging }

running_or_empty : {S : Type 0} (m : Measure) (tag : S) (running : Option (Running S)) → IfSome running RunsPrinted
    → RunsPrinted (running_or_new m tag running)
running_or_empty m tag None runs = All-nil ArePrinted
running_or_empty m tag (Some r) runs = runs

ran_on : {S : Type 0} (m : Measure) (tag : S) (mode : WhiteSpace) (cs : List ℕ) (main further : S) (b : Laid S)
    → IsPrintedBlock b → IfSome (run_on m tag mode cs main further b) IsPrintedBlock
ran_on m tag mode cs main further b h =
    let r = running_or_new m tag b.running in
    mapped RunsPrinted IsPrintedBlock (with_running b)
    (option_map (with_added mode cs r) (added mode cs main further r.text))
    (λ x runs. running_put b x h runs)
    (mapped IsPrintedText RunsPrinted (with_added mode cs r) (added mode cs main further r.text) (λ x all. all)
    (added_printed mode cs main further r.text (running_or_empty m tag b.running h.running)))

entered : {S : Type 0} (m : Measure) (tag : S) (mode : WhiteSpace) (cs : List ℕ) (b : Laid S) → IsPrintedBlock b
    → IfSome (enter_mode m tag mode cs b) IsPrintedBlock
entered m tag mode cs b h = by_mode (is_filled cs && runs_otherwise mode b.running)
  where
    by_mode : (t : Bool) → IfSome (if t then flush m tag b else Some b) IsPrintedBlock
    by_mode true = flushed m tag b h
    by_mode false = h

pub text_added : {S : Type 0} (m : Measure) (tag : S) (mode : WhiteSpace) (cs : List ℕ) (main further : S)
    (b : Laid S) → IsPrintedBlock b → IfSome (add_text m tag mode cs main further b) IsPrintedBlock
text_added m tag mode cs main further b h =
    chained IsPrintedBlock IsPrintedBlock (run_on m tag mode cs main further) (enter_mode m tag mode cs b)
    (λ x printed. ran_on m tag mode cs main further x printed) (entered m tag mode cs b h)

pub marked : {S : Type 0} (m : Measure) (tag : S) (name : List ℕ) (b : Laid S) → IsPrintedBlock b
    → IsPrintedBlock (mark m tag name b)
marked m tag name b h =
    running_put b (with_marker name (running_or_new m tag b.running)) h (running_or_empty m tag b.running h.running)

-- ---- a line break

broken_printed : {S : Type 0} (m : Measure) (tag : S) (b : Laid S) (broke : Bool × Running S) → IsPrintedBlock b
    → RunsPrinted broke.1 → IfSome (broken_line m tag b broke) IsPrintedBlock
broken_printed m tag b broke h runs = by_end broke.0
  where
    by_end : (t : Bool) → IfSome (if t then flush m tag (with_running b broke.1)
        else add_empty_line m tag (with_running b broke.1)) IsPrintedBlock
    by_end true = flushed m tag (with_running b broke.1) (running_put b broke.1 h runs)
    by_end false = empty_line_added m tag (with_running b broke.1) (running_put b broke.1 h runs)

broke_of : {S : Type 0} (m : Measure) (tag : S) (running : Option (Running S)) (b : Laid S)
    → IfSome running RunsPrinted → IsPrintedBlock b → IfSome (break_of m tag running b) IsPrintedBlock
broke_of m tag None b runs h = empty_line_added m tag b h
broke_of {S = S} m tag (Some r) b runs h =
    chained (λ (broke : Bool × Running S). RunsPrinted broke.1) IsPrintedBlock (broken_line m tag b)
    (option_map (with_text_of r) (broken r.text)) (λ broke all. broken_printed m tag b broke h all)
    (mapped (λ (broke : Bool × Block S). IsPrintedText broke.1) (λ (broke : Bool × Running S). RunsPrinted broke.1)
    (with_text_of r) (broken r.text) (λ broke all. all)
    (mapped IsPrintedText (λ (broke : Bool × Block S). IsPrintedText broke.1)
    (λ (e : Block S). (ends_in_columns (lines_in r.text.mode r.text.width r.text.source), e)) (ended r.text)
    (λ e all. all) (ended_printed r.text runs)))

pub line_broken : {S : Type 0} (m : Measure) (tag : S) (b : Laid S) → IsPrintedBlock b
    → IfSome (break_line m tag b) IsPrintedBlock
line_broken m tag b h = broke_of m tag b.running b h.running h
