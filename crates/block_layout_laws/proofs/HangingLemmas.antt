-- Cells that go on wait for a row: no other call but the start of a table touches them.
use Rattle.std.proofs.Common.{◌≡◌, ℕ, Bool, true, false, List, [], ◌∷◌, Option, None, Some, IfSome, ap, ◌∙◌, refl}
use Rattle.std.specs.Prelude.{fold, if◌then◌else◌, ◌&&◌}
use Rattle.std.specs.Option.{option_map, option_and_then}
use Rattle.text_lines.specs.Tagged.{Item}
use Rattle.text_pieces.specs.Sources.{is_filled}
use Rattle.text_pieces.specs.declared.white_space.WhiteSpace.{WhiteSpace}
use Rattle.text_wrapping.specs.Blocks.{added, broken}
use Rattle.text_borders.specs.Borders.{Border, horizontal, plain}
use Rattle.text_borders.specs.Across.{CellLine, Cell, across}
use Rattle.block_layout.specs.declared.measure.Measure.{Measure}
use Rattle.block_layout.specs.Laid.{Laid, Running, add_block, add_border, add_empty_line, add_horizontal_border}
use Rattle.block_layout.specs.Laid.{add_prefixed, add_text, add_text_line, add_text_lines, after_empty_line, break_line}
use Rattle.block_layout.specs.Laid.{break_of, broken_line, enter_mode, flush, flush_of, has_content, laid_text, parted}
use Rattle.block_layout.specs.Laid.{run_on, running_or_new, runs_otherwise, start_awaited, start_block, start_table}
use Rattle.block_layout.specs.Laid.{started, text_laid, with_added, with_running, with_text_of, without_hanging}
use Rattle.block_layout.specs.Laid.{without_running}
use Rattle.block_layout.specs.LaidRows.{last_border, row_laid, add_row}
use Rattle.block_layout_laws.proofs.OptionLemmas.{mapped, chained}

abbrev pub Hangs : {S : Type 0} → Laid S → Laid S → Type 0
Hangs b new = new.hanging ≡ b.hanging

text_lines_hang : {S : Type 0} (m : Measure) (tag fill : S) (lines : List (List (Item S))) (b : Laid S)
    → Hangs b (add_text_lines m tag fill lines b)
text_lines_hang m tag fill [] b = refl
text_lines_hang m tag fill (line ∷ lines) b = text_lines_hang m tag fill lines (add_text_line m tag fill b line)

laid_hangs : {S : Type 0} (m : Measure) (tag fill : S) (b : Laid S) (o : Option (List (List ℕ) × List (List (Item S))))
    → IfSome (option_map (text_laid m tag fill b) o) (Hangs b)
laid_hangs m tag fill b None = tt
laid_hangs m tag fill b (Some laid) = text_lines_hang m tag fill laid.1 b

of_hangs : {S : Type 0} (m : Measure) (tag : S) (o : Option (Running S)) (b : Laid S)
    → IfSome (flush_of m tag o b) (Hangs b)
of_hangs m tag None b = refl
of_hangs m tag (Some r) b = laid_hangs m tag r.fill b (laid_text r.text)

pub flush_hangs : {S : Type 0} (m : Measure) (tag : S) (b : Laid S) → IfSome (flush m tag b) (Hangs b)
flush_hangs m tag b = of_hangs m tag b.running (without_running b)

pub empty_line_hangs : {S : Type 0} (m : Measure) (tag : S) (b : Laid S) → IfSome (add_empty_line m tag b) (Hangs b)
empty_line_hangs m tag b = mapped (Hangs b) (Hangs b) (after_empty_line m tag) (flush m tag b) (λ x h. h)
    (flush_hangs m tag b)

parted_hangs : {S : Type 0} (m : Measure) (tag : S) (b x : Laid S) → Hangs b x → Hangs b (parted m tag x)
parted_hangs {S = S} m tag b x h = by_content (has_content x.lines)
  where
    by_content : (c : Bool) → Hangs b (if c then after_empty_line m tag x else started x)
    by_content true = h
    by_content false = h

pub block_hangs : {S : Type 0} (m : Measure) (tag : S) (b : Laid S) → IfSome (start_block m tag b) (Hangs b)
block_hangs m tag b = mapped (Hangs b) (Hangs b) (parted m tag) (flush m tag b) (λ x h. parted_hangs m tag b x h)
    (flush_hangs m tag b)

pub table_hangs : {S : Type 0} (m : Measure) (tag : S) (b : Laid S)
    → IfSome (start_table m tag b) (λ new. new.hanging ≡ [])
table_hangs m tag b = mapped (Hangs b) (λ new. new.hanging ≡ []) without_hanging (start_block m tag b) (λ x h. refl)
    (block_hangs m tag b)

pub awaited_hangs : {S : Type 0} (m : Measure) (tag : S) (b : Laid S) → IfSome (start_awaited m tag b) (Hangs b)
awaited_hangs {S = S} m tag b = by_await b.awaits
  where
    by_await : (a : Bool) → IfSome (if a then start_block m tag b else Some b) (Hangs b)
    by_await true = block_hangs m tag b
    by_await false = refl

running_hangs : {S : Type 0} (b x : Laid S) (o : Option (Running S)) → Hangs b x
    → IfSome (option_map (with_running x) o) (Hangs b)
running_hangs b x None h = tt
running_hangs b x (Some r) h = h

pub text_hangs : {S : Type 0} (m : Measure) (tag : S) (mode : WhiteSpace) (cs : List ℕ) (main further : S) (b : Laid S)
    → IfSome (add_text m tag mode cs main further b) (Hangs b)
text_hangs {S = S} m tag mode cs main further b =
    chained (Hangs b) (Hangs b) (run_on m tag mode cs main further) (enter_mode m tag mode cs b)
    (λ x h. running_hangs b x (option_map (with_added mode cs (running_or_new m tag x.running))
    (added mode cs main further (running_or_new m tag x.running).text)) h)
    (by_mode (is_filled cs && runs_otherwise mode b.running))
  where
    by_mode : (c : Bool) → IfSome (if c then flush m tag b else Some b) (Hangs b)
    by_mode true = flush_hangs m tag b
    by_mode false = refl

broken_hangs : {S : Type 0} (m : Measure) (tag : S) (b : Laid S) (o : Option (Bool × Running S))
    → IfSome (option_and_then (broken_line m tag b) o) (Hangs b)
broken_hangs m tag b None = tt
broken_hangs {S = S} m tag b (Some ended) = by_end ended.0
  where
    by_end : (e : Bool) → IfSome (if e then flush m tag (with_running b ended.1)
        else add_empty_line m tag (with_running b ended.1)) (Hangs b)
    by_end true = flush_hangs m tag (with_running b ended.1)
    by_end false = empty_line_hangs m tag (with_running b ended.1)

break_hangs_of : {S : Type 0} (m : Measure) (tag : S) (o : Option (Running S)) (b : Laid S)
    → IfSome (break_of m tag o b) (Hangs b)
break_hangs_of m tag None b = empty_line_hangs m tag b
break_hangs_of m tag (Some r) b = broken_hangs m tag b (option_map (with_text_of r) (broken r.text))

pub break_hangs : {S : Type 0} (m : Measure) (tag : S) (b : Laid S) → IfSome (break_line m tag b) (Hangs b)
break_hangs m tag b = break_hangs_of m tag b.running b

pub border_hangs : {S : Type 0} (m : Measure) (tag : S) (width : ℕ) (b : Laid S)
    → IfSome (add_horizontal_border m tag width b) (Hangs b)
border_hangs m tag width b = mapped (Hangs b) (Hangs b) (add_border (plain horizontal width tag)) (flush m tag b)
    (λ x h. h) (flush_hangs m tag b)

prefixed_hang : {S : Type 0} (other m : Measure) (tag : S) (prefix : List ℕ) (lines : List (CellLine S)) (b : Laid S)
    → Hangs b (fold (add_prefixed other m tag prefix) b lines)
prefixed_hang other m tag prefix [] b = refl
prefixed_hang other m tag prefix (l ∷ lines) b =
    prefixed_hang other m tag prefix lines (add_prefixed other m tag prefix b l)

pub other_hangs : {S : Type 0} (other m : Measure) (tag : S) (first following : List ℕ) (lines : List (CellLine S))
    (b : Laid S) → Hangs b (add_block other m tag first following lines b)
other_hangs other m tag first following [] b = refl
other_hangs other m tag first following (l ∷ lines) b =
    prefixed_hang other m tag following lines (add_prefixed other m tag first b l)

pub row_hangs : {S : Type 0} (m : Measure) (tag : S) (draws collapse : Bool) (cells : List (Cell S))
    (b flushed new : Laid S)
    → flush m tag b ≡ Some flushed → add_row m tag draws collapse cells b ≡ Some new
    → new.hanging ≡ (across draws collapse tag (last_border flushed.lines) cells flushed.hanging).hanging
row_hangs {S = S} m tag draws collapse cells b flushed new is row = by_above (last_border flushed.lines) refl new_is
  where
    new_is : new ≡ row_laid m tag draws collapse cells flushed
    new_is = cc

    by_above : (above : Option (Border S)) → last_border flushed.lines ≡ above
        → new ≡ row_laid m tag draws collapse cells flushed
        → new.hanging ≡ (across draws collapse tag (last_border flushed.lines) cells flushed.hanging).hanging
    by_above None e h = ap (λ (x : Laid S). x.hanging) h ∙ cc
    by_above (Some above) e h = ap (λ (x : Laid S). x.hanging) h ∙ cc
