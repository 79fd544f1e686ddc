-- A block of lines: what it holds, and what each call makes of it. Where a call comes to no block, a character is wider
-- than the lines at which its text wraps.
use Rattle.std.specs.Prelude.{◌&&◌, ◌||◌, [], ◌∷◌, ◌++◌, if◌then◌else◌, Bool, List, None, Option, Some, false, fold}
use Rattle.std.specs.Prelude.{map, not, true, ℕ}
use Rattle.std.specs.Char.{is_whitespace}
use Rattle.std.specs.List.{list_all, list_any}
use Rattle.std.specs.Option.{option_map, option_and_then}
use Rattle.text_lines.specs.Tagged.{Item, marker, tagged}
use Rattle.text_pieces.specs.Items.{has_text}
use Rattle.text_pieces.specs.Sources.{is_filled}
use Rattle.text_pieces.specs.Modes.{is_preserved, is_same_mode}
use Rattle.text_pieces.specs.declared.white_space.WhiteSpace.{WhiteSpace}
use Rattle.text_wrapping.specs.Blocks.{Block, added, broken, empty_block, ended_lines, fragments_taken, has_columns}
use Rattle.text_wrapping.specs.Blocks.{marked_by, padded}
use Rattle.text_borders.specs.Borders.{Border, has_holes, plain, horizontal, filled_to}
use Rattle.text_borders.specs.Lines.{BlockLine, text, border}
use Rattle.text_borders.specs.Across.{CellLine, Hanging, as_text}
use Rattle.block_layout.specs.declared.measure.Measure.{Measure}

-- a text that is not laid out yet, its mode of white space once it is not empty, and the tag of the spaces that fill
-- its lines
pub record Running (S : Type 0) : Type 0 where
  pub mode : Option WhiteSpace
  pub text : Block S
  pub fill : S

-- The lines; the text that runs; whether a block has ended, and the next text starts another; the markers that wait for
-- a line of text; the cells that go on from the last row.
pub record Laid (S : Type 0) : Type 0 where
  pub lines : List (CellLine S)
  pub running : Option (Running S)
  pub awaits : Bool
  pub markers : List (List ℕ)
  pub hanging : List (Hanging S)

abbrev pub nothing_laid : {S : Type 0} → Laid S
nothing_laid = record { lines = []; running = None; awaits = false; markers = []; hanging = [] }

-- ---- lines

abbrev pub padding : {S : Type 0} → Measure → S → Option S
padding m tag = if m.pads then Some tag else None

abbrev pub with_line : {S : Type 0} → BlockLine S → Bool → Laid S → Laid S
with_line line content b = record b { lines = b.lines ++ (record { line = line; content = content }) ∷ [] }

-- a line of text, after the markers that wait, and filled
abbrev pub add_line : {S : Type 0} → Measure → S → Bool → List (Item S) → Laid S → Laid S
add_line m tag content items b = record (with_line
    (text (padded m.width (padding m tag) (map (λ name. marker name) b.markers ++ items))) content b) { markers = [] }

-- A border has content unless a text stands in it.
abbrev pub add_border : {S : Type 0} → Border S → Laid S → Laid S
add_border new b = with_line (border new) (not (has_holes new)) b

abbrev pub has_content : {S : Type 0} → List (CellLine S) → Bool
has_content lines = list_any (λ l. l.content) lines

-- ---- the running text becomes lines

-- lines of a text, filled by one tag up to the columns at which it wraps, and by another up to the block's
abbrev pub add_text_line : {S : Type 0} → Measure → S → S → Laid S → List (Item S) → Laid S
add_text_line m tag fill b line = add_line m tag (has_text line) (padded m.wrap_width (padding m fill) line) b

abbrev pub add_text_lines : {S : Type 0} → Measure → S → S → List (List (Item S)) → Laid S → Laid S
add_text_lines m tag fill lines b = fold (add_text_line m tag fill) b lines

abbrev pub with_markers : {S : Type 0} → List (List ℕ) → Laid S → Laid S
with_markers names b = record b { markers = b.markers ++ names }

abbrev pub without_running : {S : Type 0} → Laid S → Laid S
without_running b = record b { running = None }

-- the markers of a text that found no line, and its lines
abbrev pub lines_after : {S : Type 0} → List (List ℕ) × Block S → Option (List (List ℕ) × List (List (Item S)))
lines_after taken = option_map (λ lines. (taken.0, lines)) (ended_lines taken.1)

abbrev pub laid_text : {S : Type 0} → Block S → Option (List (List ℕ) × List (List (Item S)))
laid_text source = option_and_then lines_after (fragments_taken source)

abbrev pub text_laid : {S : Type 0} → Measure → S → S → Laid S → List (List ℕ) × List (List (Item S)) → Laid S
text_laid m tag fill b laid = with_markers laid.0 (add_text_lines m tag fill laid.1 b)

abbrev pub flush_of : {S : Type 0} → Measure → S → Option (Running S) → Laid S → Option (Laid S)
flush_of m tag None b = Some b
flush_of m tag (Some r) b = option_map (text_laid m tag r.fill b) (laid_text r.text)

abbrev pub flush : {S : Type 0} → Measure → S → Laid S → Option (Laid S)
flush m tag b = flush_of m tag b.running (without_running b)

-- ---- blocks

abbrev pub started : {S : Type 0} → Laid S → Laid S
started b = record b { awaits = false }

abbrev pub after_empty_line : {S : Type 0} → Measure → S → Laid S → Laid S
after_empty_line m tag b = started (add_line m tag false [] b)

abbrev pub add_empty_line : {S : Type 0} → Measure → S → Laid S → Option (Laid S)
add_empty_line m tag b = option_map (after_empty_line m tag) (flush m tag b)

-- an empty line where a line has content
abbrev pub parted : {S : Type 0} → Measure → S → Laid S → Laid S
parted m tag b = if has_content b.lines then after_empty_line m tag b else started b

abbrev pub start_block : {S : Type 0} → Measure → S → Laid S → Option (Laid S)
start_block m tag b = option_map (parted m tag) (flush m tag b)

abbrev pub without_hanging : {S : Type 0} → Laid S → Laid S
without_hanging b = record b { hanging = [] }

abbrev pub start_table : {S : Type 0} → Measure → S → Laid S → Option (Laid S)
start_table m tag b = option_map without_hanging (start_block m tag b)

abbrev pub end_block : {S : Type 0} → Laid S → Laid S
end_block b = record b { awaits = true }

-- ---- text

-- the running text, which begins here where there is none
abbrev pub running_or_new : {S : Type 0} → Measure → S → Option (Running S) → Running S
running_or_new m tag None = record { mode = None; text = empty_block m.wrap_width m.overflow None; fill = tag }
running_or_new m tag (Some r) = r

-- an empty text has no mode
abbrev pub next_mode : WhiteSpace → List ℕ → Option WhiteSpace → Option WhiteSpace
next_mode mode cs old = if is_filled cs then Some mode else old

abbrev pub with_added : {S : Type 0} → WhiteSpace → List ℕ → Running S → Block S → Running S
with_added mode cs r source = record r { mode = next_mode mode cs r.mode; text = source }

-- a marker waits for the next word; it gives the text no mode
abbrev pub with_marker : {S : Type 0} → List ℕ → Running S → Running S
with_marker name r = record r { text = marked_by name r.text }

abbrev pub with_text : {S : Type 0} → Running S → Block S → Running S
with_text r source = record r { text = source }

abbrev pub with_running : {S : Type 0} → Laid S → Running S → Laid S
with_running b r = record b { running = Some r }

abbrev pub run_on : {S : Type 0} → Measure → S → WhiteSpace → List ℕ → S → S → Laid S → Option (Laid S)
run_on m tag mode cs main further b =
    let r = running_or_new m tag b.running in
    option_map (with_running b) (option_map (with_added mode cs r) (added mode cs main further r.text))

abbrev pub is_other_mode : WhiteSpace → Option WhiteSpace → Bool
is_other_mode mode None = false
is_other_mode mode (Some other) = not (is_same_mode mode other)

abbrev pub runs_otherwise : {S : Type 0} → WhiteSpace → Option (Running S) → Bool
runs_otherwise mode None = false
runs_otherwise mode (Some r) = is_other_mode mode r.mode

-- a text of another mode ends the one before it, unless it is empty
abbrev pub enter_mode : {S : Type 0} → Measure → S → WhiteSpace → List ℕ → Laid S → Option (Laid S)
enter_mode m tag mode cs b =
    if is_filled cs && runs_otherwise mode b.running then flush m tag b else Some b

abbrev pub add_text : {S : Type 0} → Measure → S → WhiteSpace → List ℕ → S → S → Laid S → Option (Laid S)
add_text m tag mode cs main further b =
    option_and_then (run_on m tag mode cs main further) (enter_mode m tag mode cs b)

-- after a block, normal text of white space alone is no text
abbrev pub is_ignored : {S : Type 0} → WhiteSpace → List ℕ → Laid S → Bool
is_ignored mode cs b = b.awaits && (not (is_preserved mode) && list_all is_whitespace cs)

abbrev pub start_awaited : {S : Type 0} → Measure → S → Laid S → Option (Laid S)
start_awaited m tag b = if b.awaits then start_block m tag b else Some b

-- a marker stands in the running text
abbrev pub mark : {S : Type 0} → Measure → S → List ℕ → Laid S → Laid S
mark m tag name b = with_running b (with_marker name (running_or_new m tag b.running))

-- a line break: it ends a line that has columns, else it is an empty line
abbrev pub with_text_of : {S : Type 0} → Running S → Bool × Block S → Bool × Running S
with_text_of r ended = (ended.0, with_text r ended.1)

abbrev pub broken_line : {S : Type 0} → Measure → S → Laid S → Bool × Running S → Option (Laid S)
broken_line m tag b ended =
    if ended.0 then flush m tag (with_running b ended.1) else add_empty_line m tag (with_running b ended.1)

abbrev pub break_of : {S : Type 0} → Measure → S → Option (Running S) → Laid S → Option (Laid S)
break_of m tag None b = add_empty_line m tag b
break_of m tag (Some r) b =
    option_and_then (broken_line m tag b) (option_map (with_text_of r) (broken r.text))

abbrev pub break_line : {S : Type 0} → Measure → S → Laid S → Option (Laid S)
break_line m tag b = break_of m tag b.running b

abbrev pub has_no_text : {S : Type 0} → Option (Running S) → Bool
has_no_text None = true
has_no_text (Some r) = not (has_columns r.text)

abbrev pub is_nothing : {S : Type 0} → Laid S → Bool
is_nothing b = not (is_filled b.lines) && has_no_text b.running

-- ---- borders and other blocks

abbrev pub add_horizontal_border : {S : Type 0} → Measure → S → ℕ → Laid S → Option (Laid S)
add_horizontal_border m tag width b = option_map (add_border (plain horizontal width tag)) (flush m tag b)

-- A border is filled too where lines are.
abbrev pub finished : {S : Type 0} → Measure → BlockLine S → BlockLine S
finished m (text items) = text items
finished m (border b) = border (if m.pads then filled_to m.width b else b)

-- A border that is made text has content where it has a column; what fills it is none.
abbrev pub content_as_text : {S : Type 0} → BlockLine S → Bool → Bool
content_as_text (text items) content = content
content_as_text (border b) content = is_filled b.segments

-- a line of another block, which has the first measure, after a prefix
abbrev pub add_prefixed : {S : Type 0} → Measure → Measure → S → List ℕ → Laid S → CellLine S → Laid S
add_prefixed other m tag prefix b l = add_line m tag (content_as_text l.line l.content || is_filled prefix)
    (tagged prefix tag ++ as_text tag (finished other l.line)) b

-- lines of another block, the first after one prefix, the others after another
abbrev pub add_block : {S : Type 0} → Measure → Measure → S → List ℕ → List ℕ → List (CellLine S) → Laid S → Laid S
add_block other m tag first following [] b = b
add_block other m tag first following (l ∷ lines) b =
    fold (add_prefixed other m tag following) (add_prefixed other m tag first b l) lines

-- all lines, filled where lines are to be
abbrev pub finished_lines : {S : Type 0} → Measure → S → Laid S → Option (List (BlockLine S))
finished_lines m tag b = option_map (λ b. map (λ l. finished m l.line) b.lines) (flush m tag b)
