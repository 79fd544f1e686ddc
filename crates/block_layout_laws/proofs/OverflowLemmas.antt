-- Where a character that is wider than the lines may stand alone on one, no call is refused.
use Rattle.std.proofs.Common.{◌≡◌, ◌&&◌, ◌==◌, [], ◌∷◌, Bool, IfSome, List, None, Option, Some, ap, false, not, refl}
use Rattle.std.proofs.Common.{true, ℕ}
use Rattle.std.specs.Prelude.{IsSome, IsSomeAnd, ⊤, fold, map, if◌then◌else◌}
use Rattle.std.specs.Option.{option_map}
use Rattle.text_lines.specs.Tagged.{Item}
use Rattle.text_pieces.specs.Modes.{is_preserved, is_same_mode}
use Rattle.text_pieces.specs.Sources.{is_filled}
use Rattle.text_pieces.specs.declared.white_space.WhiteSpace.{WhiteSpace}
use Rattle.text_preserved.specs.Preserved.{names_of}
use Rattle.text_wrapping.specs.Lines.{lines_in, is_wide_in}
use Rattle.text_wrapping.specs.Blocks.{Block, added, broken, ended, ended_lines, ends_in_columns, fragments_taken}
use Rattle.text_wrapping.specs.Blocks.{in_mode, is_too_narrow, line_ended, line_feed, lines_after as with_lines_after}
use Rattle.text_wrapping.specs.Blocks.{lines_of, lines_or_empty, took, took_all, with_letter, with_mode, without_source}
use Rattle.text_borders.specs.Borders.{Border, horizontal, plain}
use Rattle.text_borders.specs.Across.{CellLine, Cell, Row, across}
use Rattle.block_layout.specs.declared.measure.Measure.{Measure}
use Rattle.block_layout.specs.Laid.{Laid, Running, add_block, add_border, add_empty_line, add_horizontal_border}
use Rattle.block_layout.specs.Laid.{add_line, add_prefixed, add_text, add_text_line, add_text_lines, after_empty_line}
use Rattle.block_layout.specs.Laid.{break_line, break_of, broken_line, enter_mode, finished, finished_lines, flush}
use Rattle.block_layout.specs.Laid.{flush_of, has_content, laid_text, lines_after, mark, parted, run_on, running_or_new}
use Rattle.block_layout.specs.Laid.{runs_otherwise, start_awaited, start_block, start_table, started, text_laid}
use Rattle.block_layout.specs.Laid.{with_added, with_running, with_text_of, without_hanging, without_running}
use Rattle.block_layout.specs.LaidRows.{add_row, add_row_line, add_row_lines, last_border, row_laid, with_border}
use Rattle.block_layout.specs.LaidRows.{with_row, without_last_border}
use Rattle.block_layout_laws.specs.LayoutLaws.{AllowsOverflow}
use Rattle.block_layout_laws.proofs.OptionLemmas.{given_mapped, given_chained}

-- ---- texts

abbrev Overflows : {S : Type 0} → Block S → Type 0
Overflows b = b.overflow ≡ true

unless_narrow : {S : Type 0} (narrow : Bool) (mid : Block S) → narrow ≡ false → Overflows mid
    → IsSomeAnd (if narrow then None else Some mid) Overflows
unless_narrow true mid wide h = cc
unless_narrow false mid wide h = h

never_narrow : {S : Type 0} (b : Block S) → Overflows b → is_too_narrow b ≡ false
never_narrow b h = ap (λ o. not o && is_wide_in b.mode b.width b.source) h

text_ends : {S : Type 0} (b : Block S) → Overflows b → IsSomeAnd (ended b) Overflows
text_ends b h = unless_narrow (is_too_narrow b) (with_lines_after b (lines_in b.mode b.width b.source))
    (never_narrow b h) h

source_line_ends : {S : Type 0} (b : Block S) → Overflows b → IsSomeAnd (line_ended b) Overflows
source_line_ends b h =
    unless_narrow (is_too_narrow b) (with_lines_after b (lines_or_empty (lines_in b.mode b.width b.source)))
    (never_narrow b h) h

takes : {S : Type 0} (main further : S) (c : ℕ) (b : Block S) → Overflows b
    → IsSomeAnd (took main further c b) Overflows
takes main further c b h = by_end (is_preserved b.mode && (c == line_feed))
  where
    by_end : (t : Bool) → IsSomeAnd (if t then line_ended b else Some (with_letter main further c b)) Overflows
    by_end true = source_line_ends b h
    by_end false = h

takes_all : {S : Type 0} (main further : S) (cs : List ℕ) (b : Block S) → Overflows b
    → IsSomeAnd (took_all main further cs b) Overflows
takes_all main further [] b h = h
takes_all main further (c ∷ cs) b h =
    given_chained Overflows Overflows (took_all main further cs) (took main further c b)
    (λ x inside. takes_all main further cs x inside) (takes main further c b h)

enters : {S : Type 0} (mode : WhiteSpace) (b : Block S) → Overflows b → IsSomeAnd (in_mode mode b) Overflows
enters mode b h = by_mode (is_same_mode mode b.mode)
  where
    by_mode : (t : Bool) → IsSomeAnd (if t then Some b else option_map (with_mode mode) (ended b)) Overflows
    by_mode true = h
    by_mode false = given_mapped Overflows Overflows (with_mode mode) (ended b) (λ x inside. inside) (text_ends b h)

adds : {S : Type 0} (mode : WhiteSpace) (cs : List ℕ) (main further : S) (b : Block S) → Overflows b
    → IsSomeAnd (added mode cs main further b) Overflows
adds mode [] main further b h = h
adds mode (c ∷ cs) main further b h =
    given_chained Overflows Overflows (took_all main further (c ∷ cs)) (in_mode mode b)
    (λ x inside. takes_all main further (c ∷ cs) x inside) (enters mode b h)

-- ---- the running text becomes lines

abbrev RunsOver : {S : Type 0} → Running S → Type 0
RunsOver r = Overflows r.text

lays : {S : Type 0} (source : Block S) → Overflows source → IsSomeAnd (laid_text source) (λ laid. ⊤)
lays {S = S} source h =
    given_chained (λ taken. Overflows taken.1) (λ laid. ⊤) lines_after (fragments_taken source)
    (λ taken inside. given_mapped (λ lines. ⊤) (λ laid. ⊤) (λ (lines : List (List (Item S))). (taken.0, lines))
    (ended_lines taken.1) (λ lines _. tt)
    (given_mapped Overflows (λ lines. ⊤) lines_of (ended taken.1) (λ e _. tt) (text_ends taken.1 inside)))
    (given_mapped Overflows (λ taken. Overflows taken.1) (λ (e : Block S). (names_of e.source, without_source e))
    (ended source) (λ e inside. inside) (text_ends source h))

line_allows : {S : Type 0} (m : Measure) (tag : S) (content : Bool) (items : List (Item S)) (b : Laid S)
    → AllowsOverflow m b → AllowsOverflow m (add_line m tag content items b)
line_allows m tag content items b h = record { measure = h.measure; running = h.running }

pub texts_allow : {S : Type 0} (m : Measure) (tag fill : S) (lines : List (List (Item S))) (b : Laid S)
    → AllowsOverflow m b → AllowsOverflow m (add_text_lines m tag fill lines b)
texts_allow m tag fill [] b h = h
texts_allow m tag fill (line ∷ lines) b h =
    texts_allow m tag fill lines (add_text_line m tag fill b line)
    (record { measure = h.measure; running = h.running })

flushes_of : {S : Type 0} (m : Measure) (tag : S) (running : Option (Running S)) (b : Laid S)
    → IfSome running RunsOver → AllowsOverflow m b → IsSomeAnd (flush_of m tag running b) (AllowsOverflow m)
flushes_of m tag None b runs h = h
flushes_of m tag (Some r) b runs h =
    given_mapped (λ laid. ⊤) (AllowsOverflow m) (text_laid m tag r.fill b) (laid_text r.text)
    (λ laid _. let put = texts_allow m tag r.fill laid.1 b h in
    record { measure = put.measure; running = put.running }) (lays r.text runs)

pub flushes : {S : Type 0} (m : Measure) (tag : S) (b : Laid S) → AllowsOverflow m b
    → IsSomeAnd (flush m tag b) (AllowsOverflow m)
flushes m tag b h =
    flushes_of m tag b.running (without_running b) h.running (record { measure = h.measure; running = tt })

-- what follows from a call that is not refused
goes_on_with : {S : Type 0} (m : Measure) (f : Laid S → Laid S) (o : Option (Laid S))
    → ((b : Laid S) → AllowsOverflow m b → AllowsOverflow m (f b)) → IsSomeAnd o (AllowsOverflow m)
    → IsSomeAnd (option_map f o) (AllowsOverflow m)
goes_on_with m f o step h = given_mapped (AllowsOverflow m) (AllowsOverflow m) f o step h

-- ---- blocks

pub adds_empty_line : {S : Type 0} (m : Measure) (tag : S) (b : Laid S) → AllowsOverflow m b
    → IsSomeAnd (add_empty_line m tag b) (AllowsOverflow m)
adds_empty_line m tag b h =
    goes_on_with m (after_empty_line m tag) (flush m tag b)
    (λ x h. record { measure = h.measure; running = h.running }) (flushes m tag b h)

parts : {S : Type 0} (m : Measure) (tag : S) (b : Laid S) → AllowsOverflow m b → AllowsOverflow m (parted m tag b)
parts m tag b h = by_content (has_content b.lines)
  where
    by_content : (t : Bool) → AllowsOverflow m (if t then after_empty_line m tag b else started b)
    by_content true = record { measure = h.measure; running = h.running }
    by_content false = record { measure = h.measure; running = h.running }

pub starts_block : {S : Type 0} (m : Measure) (tag : S) (b : Laid S) → AllowsOverflow m b
    → IsSomeAnd (start_block m tag b) (AllowsOverflow m)
starts_block m tag b h =
    goes_on_with m (parted m tag) (flush m tag b) (λ x inside. parts m tag x inside) (flushes m tag b h)

pub starts_table : {S : Type 0} (m : Measure) (tag : S) (b : Laid S) → AllowsOverflow m b
    → IsSomeAnd (start_table m tag b) (AllowsOverflow m)
starts_table m tag b h =
    goes_on_with m without_hanging (start_block m tag b)
    (λ x h. record { measure = h.measure; running = h.running }) (starts_block m tag b h)

pub starts_awaited : {S : Type 0} (m : Measure) (tag : S) (b : Laid S) → AllowsOverflow m b
    → IsSomeAnd (start_awaited m tag b) (AllowsOverflow m)
starts_awaited m tag b h = by_end b.awaits
  where
    by_end : (t : Bool) → IsSomeAnd (if t then start_block m tag b else Some b) (AllowsOverflow m)
    by_end true = starts_block m tag b h
    by_end false = h

-- ---- text

or_new_over : {S : Type 0} (m : Measure) (tag : S) (running : Option (Running S)) → m.overflow ≡ true
    → IfSome running RunsOver → RunsOver (running_or_new m tag running)
or_new_over m tag None allows runs = allows
or_new_over m tag (Some r) allows runs = runs

runs_on : {S : Type 0} (m : Measure) (tag : S) (mode : WhiteSpace) (cs : List ℕ) (main further : S) (b : Laid S)
    → AllowsOverflow m b → IsSomeAnd (run_on m tag mode cs main further b) (AllowsOverflow m)
runs_on m tag mode cs main further b h =
    let r = running_or_new m tag b.running in
    given_mapped RunsOver (AllowsOverflow m) (with_running b)
    (option_map (with_added mode cs r) (added mode cs main further r.text))
    (λ x runs. record { measure = h.measure; running = runs })
    (given_mapped Overflows RunsOver (with_added mode cs r) (added mode cs main further r.text) (λ x runs. runs)
    (adds mode cs main further r.text (or_new_over m tag b.running h.measure h.running)))

enters_mode : {S : Type 0} (m : Measure) (tag : S) (mode : WhiteSpace) (cs : List ℕ) (b : Laid S)
    → AllowsOverflow m b → IsSomeAnd (enter_mode m tag mode cs b) (AllowsOverflow m)
enters_mode m tag mode cs b h = by_mode (is_filled cs && runs_otherwise mode b.running)
  where
    by_mode : (t : Bool) → IsSomeAnd (if t then flush m tag b else Some b) (AllowsOverflow m)
    by_mode true = flushes m tag b h
    by_mode false = h

pub adds_text : {S : Type 0} (m : Measure) (tag : S) (mode : WhiteSpace) (cs : List ℕ) (main further : S) (b : Laid S)
    → AllowsOverflow m b → IsSomeAnd (add_text m tag mode cs main further b) (AllowsOverflow m)
adds_text m tag mode cs main further b h =
    given_chained (AllowsOverflow m) (AllowsOverflow m) (run_on m tag mode cs main further) (enter_mode m tag mode cs b)
    (λ x inside. runs_on m tag mode cs main further x inside) (enters_mode m tag mode cs b h)

pub marks : {S : Type 0} (m : Measure) (tag : S) (name : List ℕ) (b : Laid S) → AllowsOverflow m b
    → AllowsOverflow m (mark m tag name b)
marks m tag name b h =
    record { measure = h.measure; running = or_new_over m tag b.running h.measure h.running }

breaks : {S : Type 0} (m : Measure) (tag : S) (b : Laid S) (broke : Bool × Running S) → AllowsOverflow m b
    → RunsOver broke.1 → IsSomeAnd (broken_line m tag b broke) (AllowsOverflow m)
breaks m tag b broke h runs = by_end broke.0
  where
    by_end : (t : Bool) → IsSomeAnd (if t then flush m tag (with_running b broke.1)
        else add_empty_line m tag (with_running b broke.1)) (AllowsOverflow m)
    by_end true = flushes m tag (with_running b broke.1) (record { measure = h.measure; running = runs })
    by_end false = adds_empty_line m tag (with_running b broke.1) (record { measure = h.measure; running = runs })

breaks_of : {S : Type 0} (m : Measure) (tag : S) (running : Option (Running S)) (b : Laid S)
    → IfSome running RunsOver → AllowsOverflow m b → IsSomeAnd (break_of m tag running b) (AllowsOverflow m)
breaks_of m tag None b runs h = adds_empty_line m tag b h
breaks_of {S = S} m tag (Some r) b runs h =
    given_chained (λ (broke : Bool × Running S). RunsOver broke.1) (AllowsOverflow m) (broken_line m tag b)
    (option_map (with_text_of r) (broken r.text)) (λ broke inside. breaks m tag b broke h inside)
    (given_mapped (λ (broke : Bool × Block S). Overflows broke.1) (λ (broke : Bool × Running S). RunsOver broke.1)
    (with_text_of r) (broken r.text) (λ broke inside. inside)
    (given_mapped Overflows (λ (broke : Bool × Block S). Overflows broke.1)
    (λ (e : Block S). (ends_in_columns (lines_in r.text.mode r.text.width r.text.source), e)) (ended r.text)
    (λ e inside. inside) (text_ends r.text runs)))

pub breaks_line : {S : Type 0} (m : Measure) (tag : S) (b : Laid S) → AllowsOverflow m b
    → IsSomeAnd (break_line m tag b) (AllowsOverflow m)
breaks_line m tag b h = breaks_of m tag b.running b h.running h

-- ---- borders, other blocks and rows

pub adds_horizontal : {S : Type 0} (m : Measure) (tag : S) (width : ℕ) (b : Laid S) → AllowsOverflow m b
    → IsSomeAnd (add_horizontal_border m tag width b) (AllowsOverflow m)
adds_horizontal m tag width b h =
    goes_on_with m (add_border (plain horizontal width tag)) (flush m tag b)
    (λ x h. record { measure = h.measure; running = h.running }) (flushes m tag b h)

all_allow : {S : Type 0} (other m : Measure) (tag : S) (prefix : List ℕ) (lines : List (CellLine S)) (b : Laid S)
    → AllowsOverflow m b → AllowsOverflow m (fold (add_prefixed other m tag prefix) b lines)
all_allow other m tag prefix [] b h = h
all_allow other m tag prefix (l ∷ lines) b h =
    all_allow other m tag prefix lines (add_prefixed other m tag prefix b l)
    (record { measure = h.measure; running = h.running })

pub adds_block : {S : Type 0} (other m : Measure) (tag : S) (first following : List ℕ) (lines : List (CellLine S))
    (b : Laid S) → AllowsOverflow m b → AllowsOverflow m (add_block other m tag first following lines b)
adds_block other m tag first following [] b h = h
adds_block other m tag first following (l ∷ lines) b h =
    all_allow other m tag following lines (add_prefixed other m tag first b l)
    (record { measure = h.measure; running = h.running })

border_less : {S : Type 0} (m : Measure) (above : Option (Border S)) (b : Laid S) → AllowsOverflow m b
    → AllowsOverflow m (without_hanging (without_last_border above b))
border_less m None b h = record { measure = h.measure; running = h.running }
border_less m (Some above) b h = record { measure = h.measure; running = h.running }

border_given : {S : Type 0} (m : Measure) (new : Option (Border S)) (b : Laid S) → AllowsOverflow m b
    → AllowsOverflow m (with_border new b)
border_given m None b h = h
border_given m (Some new) b h = record { measure = h.measure; running = h.running }

lines_given : {S : Type 0} (m : Measure) (tag : S) (lines : List (List (Item S))) (b : Laid S) → AllowsOverflow m b
    → AllowsOverflow m (add_row_lines m tag lines b)
lines_given m tag [] b h = h
lines_given m tag (l ∷ lines) b h =
    lines_given m tag lines (add_row_line m tag b l) (record { measure = h.measure; running = h.running })

row_given : {S : Type 0} (m : Measure) (tag : S) (draws : Bool) (row : Row S) (b : Laid S) → AllowsOverflow m b
    → AllowsOverflow m (with_row m tag draws row b)
row_given m tag draws row b h =
    let put = border_given m (if draws then Some row.below else None)
    (add_row_lines m tag row.lines (with_border row.above b))
    (lines_given m tag row.lines (with_border row.above b) (border_given m row.above b h)) in
    record { measure = put.measure; running = put.running }

pub adds_row : {S : Type 0} (m : Measure) (tag : S) (draws collapse : Bool) (cells : List (Cell S)) (b : Laid S)
    → AllowsOverflow m b → IsSomeAnd (add_row m tag draws collapse cells b) (AllowsOverflow m)
adds_row m tag draws collapse cells b h =
    goes_on_with m (row_laid m tag draws collapse cells) (flush m tag b)
    (λ x inside. row_given m tag draws (across draws collapse tag (last_border x.lines) cells x.hanging)
    (without_hanging (without_last_border (last_border x.lines) x)) (border_less m (last_border x.lines) x inside))
    (flushes m tag b h)

pub finishes : {S : Type 0} (m : Measure) (tag : S) (b : Laid S) → AllowsOverflow m b → IsSome (finished_lines m tag b)
finishes {S = S} m tag b h = given (flush m tag b) (flushes m tag b h)
  where
    given : (o : Option (Laid S)) → IsSomeAnd o (AllowsOverflow m)
        → IsSome (option_map (λ x. map (λ l. finished m l.line) x.lines) o)
    given None h = absurd h
    given (Some x) h = refl
