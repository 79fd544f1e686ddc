-- Each call keeps the lines of a block within its width.
use Rattle.std.proofs.Common.{◌≡◌, ◌-◌, ◌<◌, ◌≤◌, ⊎_elim, ◌&&◌, [], ◌∷◌, ◌++◌, Bool, IfSome, List, None, Option, Some}
use Rattle.std.proofs.Common.{arith, false, map, refl, subst, sym, true, ℕ}
use Rattle.std.specs.Prelude.{All, replicate, if◌then◌else◌}
use Rattle.std.specs.Option.{option_map}
use Rattle.std.proofs.lemmas.Bool.{cases_lt}
use Rattle.std.proofs.lemmas.List.{append-nil}
use Rattle.std.proofs.lemmas.List.Elements.{All-nil, All-head, All-tail, All-push}
use Rattle.text_lines.specs.Tagged.{Item, character, marker, line_columns}
use Rattle.text_pieces.specs.Items.{has_text}
use Rattle.text_pieces.specs.Sources.{is_filled}
use Rattle.text_pieces.specs.declared.white_space.WhiteSpace.{WhiteSpace}
use Rattle.text_wrapping.specs.Blocks.{Block, added, broken, empty_block, ended, ended_lines, ends_in_columns}
use Rattle.text_wrapping.specs.Blocks.{fragments_taken, marked_by, padded, without_source}
use Rattle.text_wrapping.specs.Lines.{lines_in}
use Rattle.text_wrapping.specs.LawWords.{IsWithin as IsTextWithin}
use Rattle.text_preserved.specs.Preserved.{names_of}
use Rattle.text_borders.specs.Lines.{BlockLine, text}
use Rattle.text_borders.specs.Across.{CellLine}
use Rattle.text_borders.specs.AcrossLaws.{LineFits, CellFits}
use Rattle.block_layout.specs.declared.measure.Measure.{Measure}
use Rattle.block_layout.specs.Laid.{Laid, Running, add_empty_line, add_line, add_text, add_text_line, add_text_lines}
use Rattle.block_layout.specs.Laid.{after_empty_line, break_line, break_of, broken_line, end_block, enter_mode, flush}
use Rattle.block_layout.specs.Laid.{flush_of, has_content, laid_text, lines_after, mark, nothing_laid, padding, parted}
use Rattle.block_layout.specs.Laid.{run_on, running_or_new, runs_otherwise, start_awaited, start_block, start_table}
use Rattle.block_layout.specs.Laid.{started, text_laid, with_added, with_line, with_marker, with_running, with_text_of}
use Rattle.block_layout.specs.Laid.{without_hanging, without_running}
use Rattle.block_layout_laws.specs.LayoutLaws.{IsKept, IsWithin}
use Rattle.block_layout_laws.proofs.OptionLemmas.{known, mapped, chained}

-- what the crate below says of texts
pub record TextLaws (S : Type 0) : Type 0 where
  pub empty : (width : ℕ) (padding : Option S) → IsTextWithin width (empty_block width false padding)
  pub added : (width : ℕ) (mode : WhiteSpace) (cs : List ℕ) (main further : S) (b new : Block S)
      → IsTextWithin width b → added mode cs main further b ≡ Some new → IsTextWithin width new
  pub marked : (width : ℕ) (name : List ℕ) (b : Block S) → IsTextWithin width b
      → IsTextWithin width (marked_by name b)
  pub ended : (width : ℕ) (b new : Block S) → IsTextWithin width b → ended b ≡ Some new → IsTextWithin width new
  pub lines : (width : ℕ) (b : Block S) (lines : List (List (Item S))) → IsTextWithin width b
      → ended_lines b ≡ Some lines → All (λ line. line_columns line ≤ width) lines
  pub filled : (width : ℕ) (tag : S) (line : List (Item S)) → line_columns line ≤ width
      → line_columns (padded width (Some tag) line) ≡ width

abbrev pub Fits : {S : Type 0} → ℕ → CellLine S → Type 0
Fits width l = LineFits width l.line

abbrev FitsIn : {S : Type 0} → ℕ → List (Item S) → Type 0
FitsIn width line = line_columns line ≤ width

abbrev RunsWithin : {S : Type 0} → ℕ → Running S → Type 0
RunsWithin width r = IsTextWithin width r.text

-- ---- lines

pub line_put : {S : Type 0} (m : Measure) (line : BlockLine S) (content : Bool) (b : Laid S) → LineFits m.width line
    → IsWithin m b → IsWithin m (with_line line content b)
line_put {S = S} m line content b fits within =
    let l : CellLine S = record { line = line; content = content } in
    record {
      lines = All-push (Fits m.width) b.lines l within.lines fits;
      running = within.running;
      hanging = within.hanging;
    }

markers_columns : {S : Type 0} (names : List (List ℕ)) (items : List (Item S))
    → line_columns (map (λ name. marker name) names ++ items) ≡ line_columns items
markers_columns [] items = refl
markers_columns (name ∷ names) items = markers_columns names items

padded_fits : {S : Type 0} (laws : TextLaws S) (width : ℕ) (padding : Option S) (line : List (Item S))
    → line_columns line ≤ width → line_columns (padded width padding line) ≤ width
padded_fits laws width None line fits = fits
padded_fits laws width (Some tag) line fits = let same = laws.filled width tag line fits in omega (arith, same)

pub line_added : {S : Type 0} (laws : TextLaws S) (m : Measure) (tag : S) (content : Bool) (items : List (Item S))
    (b : Laid S) → line_columns items ≤ m.width → IsWithin m b → IsWithin m (add_line m tag content items b)
line_added {S = S} laws m tag content items b fits within =
    let line : List (Item S) = map (λ name. marker name) b.markers ++ items in
    let put = line_put m (text (padded m.width (padding m tag) line)) content b
    (padded_fits laws m.width (padding m tag) line (omega (arith, fits, markers_columns b.markers items))) within in
    record { lines = put.lines; running = put.running; hanging = put.hanging }

-- ---- the running text becomes lines

-- filled up to where text wraps, where it isn't wider
filled_fits : {S : Type 0} (laws : TextLaws S) (wrap width : ℕ) (padding : Option S) (line : List (Item S))
    → wrap ≤ width → line_columns line ≤ width → line_columns (padded wrap padding line) ≤ width
filled_fits laws wrap width None line narrow fits = fits
filled_fits {S = S} laws wrap width (Some tag) line narrow fits = ⊎_elim past short (cases_lt wrap (line_columns line))
  where
    past : wrap < line_columns line → line_columns (padded wrap (Some tag) line) ≤ width
    past wide =
        let none : wrap - line_columns line ≡ 0 = omega (arith, wide) in
        subst (λ n. line_columns (line ++ replicate n (character 0x20 tag)) ≤ width) (sym none)
        (subst (λ l. line_columns l ≤ width) (sym (append-nil line)) fits)

    short : line_columns line ≤ wrap → line_columns (padded wrap (Some tag) line) ≤ width
    short fits_there = let same = laws.filled wrap tag line fits_there in omega (arith, same, narrow)

pub lines_added : {S : Type 0} (laws : TextLaws S) (m : Measure) (tag fill : S) (lines : List (List (Item S)))
    (b : Laid S) → IsKept m → All (FitsIn m.width) lines → IsWithin m b
    → IsWithin m (add_text_lines m tag fill lines b)
lines_added laws m tag fill [] b kept fit within = within
lines_added laws m tag fill (line ∷ lines) b kept fit within =
    lines_added laws m tag fill lines (add_text_line m tag fill b line) kept
    (All-tail (FitsIn m.width) line lines fit)
    (line_added laws m tag (has_text line) (padded m.wrap_width (padding m fill) line) b
    (filled_fits laws m.wrap_width m.width (padding m fill) line kept.wraps_within
    (All-head (FitsIn m.width) line lines fit)) within)

texts_added : {S : Type 0} (laws : TextLaws S) (m : Measure) (tag fill : S) (lines : List (List (Item S))) (b : Laid S)
    → IsKept m → All (FitsIn m.wrap_width) lines → IsWithin m b → IsWithin m (add_text_lines m tag fill lines b)
texts_added laws m tag fill [] b kept fit within = within
texts_added laws m tag fill (line ∷ lines) b kept fit within =
    let filled = padded_fits laws m.wrap_width (padding m fill) line (All-head (FitsIn m.wrap_width) line lines fit) in
    texts_added laws m tag fill lines (add_text_line m tag fill b line) kept
    (All-tail (FitsIn m.wrap_width) line lines fit)
    (line_added laws m tag (has_text line) (padded m.wrap_width (padding m fill) line) b
    (omega (arith, filled, kept.wraps_within)) within)

source_less : {S : Type 0} (width : ℕ) (b : Block S) → IsTextWithin width b → IsTextWithin width (without_source b)
source_less width b h = record { same_width = h.same_width; no_overflow = h.no_overflow; lines = h.lines }

text_lines_fit : {S : Type 0} (laws : TextLaws S) (width : ℕ) (source : Block S) → IsTextWithin width source
    → IfSome (laid_text source) (λ laid. All (FitsIn width) laid.1)
text_lines_fit {S = S} laws width source h =
    chained (λ taken. IsTextWithin width taken.1) (λ laid. All (FitsIn width) laid.1) lines_after
    (fragments_taken source)
    (λ taken inside. mapped (λ lines. All (FitsIn width) lines) (λ laid. All (FitsIn width) laid.1)
    (λ (lines : List (List (Item S))). (taken.0, lines)) (ended_lines taken.1) (λ lines fit. fit)
    (known (λ lines. All (FitsIn width) lines) (ended_lines taken.1)
    (λ lines is. laws.lines width taken.1 lines inside is)))
    (mapped (IsTextWithin width) (λ taken. IsTextWithin width taken.1)
    (λ (e : Block S). (names_of e.source, without_source e)) (ended source) (λ e inside. source_less width e inside)
    (known (IsTextWithin width) (ended source) (λ e is. laws.ended width source e h is)))

flushed_of : {S : Type 0} (laws : TextLaws S) (m : Measure) (tag : S) (running : Option (Running S)) (b : Laid S)
    → IsKept m → IfSome running (RunsWithin m.wrap_width) → IsWithin m b
    → IfSome (flush_of m tag running b) (IsWithin m)
flushed_of laws m tag None b kept runs within = within
flushed_of {S = S} laws m tag (Some r) b kept runs within =
    mapped (λ laid. All (FitsIn m.wrap_width) laid.1) (IsWithin m) (text_laid m tag r.fill b) (laid_text r.text)
    (λ laid fit. let put = texts_added laws m tag r.fill laid.1 b kept fit within in
    record { lines = put.lines; running = put.running; hanging = put.hanging })
    (text_lines_fit laws m.wrap_width r.text runs)

pub flushed : {S : Type 0} (laws : TextLaws S) (m : Measure) (tag : S) (b : Laid S) → IsKept m → IsWithin m b
    → IfSome (flush m tag b) (IsWithin m)
flushed laws m tag b kept within =
    flushed_of laws m tag b.running (without_running b) kept within.running
    (record { lines = within.lines; running = tt; hanging = within.hanging })

-- ---- blocks

pub nothing_within : {S : Type 0} (m : Measure) → IsWithin {S = S} m nothing_laid
nothing_within m = record {
  lines = All-nil (Fits m.width);
  running = tt;
  hanging = All-nil (λ h. CellFits h.cell);
}

started_within : {S : Type 0} (m : Measure) (b : Laid S) → IsWithin m b → IsWithin m (started b)
started_within m b within = record { lines = within.lines; running = within.running; hanging = within.hanging }

emptied_within : {S : Type 0} (laws : TextLaws S) (m : Measure) (tag : S) (b : Laid S) → IsWithin m b
    → IsWithin m (after_empty_line m tag b)
emptied_within laws m tag b within =
    started_within m (add_line m tag false [] b) (line_added laws m tag false [] b (omega arith) within)

pub empty_line_added : {S : Type 0} (laws : TextLaws S) (m : Measure) (tag : S) (b : Laid S) → IsKept m → IsWithin m b
    → IfSome (add_empty_line m tag b) (IsWithin m)
empty_line_added laws m tag b kept within =
    mapped (IsWithin m) (IsWithin m) (after_empty_line m tag) (flush m tag b)
    (λ x inside. emptied_within laws m tag x inside) (flushed laws m tag b kept within)

parted_within : {S : Type 0} (laws : TextLaws S) (m : Measure) (tag : S) (b : Laid S) → IsWithin m b
    → IsWithin m (parted m tag b)
parted_within laws m tag b within = by_content (has_content b.lines)
  where
    by_content : (t : Bool) → IsWithin m (if t then after_empty_line m tag b else started b)
    by_content true = emptied_within laws m tag b within
    by_content false = started_within m b within

pub block_started : {S : Type 0} (laws : TextLaws S) (m : Measure) (tag : S) (b : Laid S) → IsKept m → IsWithin m b
    → IfSome (start_block m tag b) (IsWithin m)
block_started laws m tag b kept within =
    mapped (IsWithin m) (IsWithin m) (parted m tag) (flush m tag b) (λ x inside. parted_within laws m tag x inside)
    (flushed laws m tag b kept within)

pub none_hang : {S : Type 0} (m : Measure) (b : Laid S) → IsWithin m b → IsWithin m (without_hanging b)
none_hang m b within =
    record { lines = within.lines; running = within.running; hanging = All-nil (λ h. CellFits h.cell) }

pub table_started : {S : Type 0} (laws : TextLaws S) (m : Measure) (tag : S) (b : Laid S) → IsKept m → IsWithin m b
    → IfSome (start_table m tag b) (IsWithin m)
table_started laws m tag b kept within =
    mapped (IsWithin m) (IsWithin m) without_hanging (start_block m tag b) (λ x inside. none_hang m x inside)
    (block_started laws m tag b kept within)

pub block_ended : {S : Type 0} (m : Measure) (b : Laid S) → IsWithin m b → IsWithin m (end_block b)
block_ended m b within = record { lines = within.lines; running = within.running; hanging = within.hanging }

pub awaited_started : {S : Type 0} (laws : TextLaws S) (m : Measure) (tag : S) (b : Laid S) → IsKept m → IsWithin m b
    → IfSome (start_awaited m tag b) (IsWithin m)
awaited_started laws m tag b kept within = by_end b.awaits
  where
    by_end : (t : Bool) → IfSome (if t then start_block m tag b else Some b) (IsWithin m)
    by_end true = block_started laws m tag b kept within
    by_end false = within

-- ---- text

running_put : {S : Type 0} (m : Measure) (b : Laid S) (r : Running S) → IsWithin m b → RunsWithin m.wrap_width r
    → IsWithin m (with_running b r)
running_put m b r within runs = record { lines = within.lines; running = runs; hanging = within.hanging }

running_or_empty : {S : Type 0} (laws : TextLaws S) (m : Measure) (tag : S) (running : Option (Running S)) → IsKept m
    → IfSome running (RunsWithin m.wrap_width) → RunsWithin m.wrap_width (running_or_new m tag running)
running_or_empty {S = S} laws m tag None kept runs =
    subst (λ o. IsTextWithin {S = S} m.wrap_width (empty_block m.wrap_width o None)) (sym kept.no_overflow)
    (laws.empty m.wrap_width None)
running_or_empty laws m tag (Some r) kept runs = runs

ran_on : {S : Type 0} (laws : TextLaws S) (m : Measure) (tag : S) (mode : WhiteSpace) (cs : List ℕ) (main further : S)
    (b : Laid S) → IsKept m → IsWithin m b → IfSome (run_on m tag mode cs main further b) (IsWithin m)
ran_on laws m tag mode cs main further b kept within =
    let r = running_or_new m tag b.running in
    mapped (RunsWithin m.wrap_width) (IsWithin m) (with_running b)
    (option_map (with_added mode cs r) (added mode cs main further r.text))
    (λ x runs. running_put m b x within runs)
    (mapped (IsTextWithin m.wrap_width) (RunsWithin m.wrap_width) (with_added mode cs r)
    (added mode cs main further r.text) (λ x inside. inside)
    (known (IsTextWithin m.wrap_width) (added mode cs main further r.text)
    (λ x is. laws.added m.wrap_width mode cs main further r.text x
    (running_or_empty laws m tag b.running kept within.running) is)))

entered : {S : Type 0} (laws : TextLaws S) (m : Measure) (tag : S) (mode : WhiteSpace) (cs : List ℕ) (b : Laid S)
    → IsKept m → IsWithin m b → IfSome (enter_mode m tag mode cs b) (IsWithin m)
entered laws m tag mode cs b kept within = by_mode (is_filled cs && runs_otherwise mode b.running)
  where
    by_mode : (t : Bool) → IfSome (if t then flush m tag b else Some b) (IsWithin m)
    by_mode true = flushed laws m tag b kept within
    by_mode false = within

pub text_added : {S : Type 0} (laws : TextLaws S) (m : Measure) (tag : S) (mode : WhiteSpace) (cs : List ℕ)
    (main further : S) (b : Laid S) → IsKept m → IsWithin m b
    → IfSome (add_text m tag mode cs main further b) (IsWithin m)
text_added laws m tag mode cs main further b kept within =
    chained (IsWithin m) (IsWithin m) (run_on m tag mode cs main further) (enter_mode m tag mode cs b)
    (λ x inside. ran_on laws m tag mode cs main further x kept inside) (entered laws m tag mode cs b kept within)

pub marked : {S : Type 0} (laws : TextLaws S) (m : Measure) (tag : S) (name : List ℕ) (b : Laid S) → IsKept m
    → IsWithin m b → IsWithin m (mark m tag name b)
marked laws m tag name b kept within =
    let r = running_or_new m tag b.running in
    running_put m b (with_marker name r) within
    (laws.marked m.wrap_width name r.text (running_or_empty laws m tag b.running kept within.running))

-- ---- a line break

broken_within : {S : Type 0} (laws : TextLaws S) (m : Measure) (tag : S) (b : Laid S) (broke : Bool × Running S)
    → IsKept m → IsWithin m b → RunsWithin m.wrap_width broke.1 → IfSome (broken_line m tag b broke) (IsWithin m)
broken_within laws m tag b broke kept within runs = by_end broke.0
  where
    by_end : (t : Bool) → IfSome (if t then flush m tag (with_running b broke.1)
        else add_empty_line m tag (with_running b broke.1)) (IsWithin m)
    by_end true = flushed laws m tag (with_running b broke.1) kept (running_put m b broke.1 within runs)
    by_end false = empty_line_added laws m tag (with_running b broke.1) kept (running_put m b broke.1 within runs)

broke_of : {S : Type 0} (laws : TextLaws S) (m : Measure) (tag : S) (running : Option (Running S)) (b : Laid S)
    → IsKept m → IfSome running (RunsWithin m.wrap_width) → IsWithin m b
    → IfSome (break_of m tag running b) (IsWithin m)
broke_of laws m tag None b kept runs within = empty_line_added laws m tag b kept within
broke_of {S = S} laws m tag (Some r) b kept runs within =
    chained (λ (broke : Bool × Running S). RunsWithin m.wrap_width broke.1) (IsWithin m) (broken_line m tag b)
    (option_map (with_text_of r) (broken r.text)) (λ broke inside. broken_within laws m tag b broke kept within inside)
    (mapped (λ (broke : Bool × Block S). IsTextWithin m.wrap_width broke.1)
    (λ (broke : Bool × Running S). RunsWithin m.wrap_width broke.1) (with_text_of r) (broken r.text)
    (λ broke inside. inside)
    (mapped (IsTextWithin m.wrap_width) (λ (broke : Bool × Block S). IsTextWithin m.wrap_width broke.1)
    (λ (e : Block S). (ends_in_columns (lines_in r.text.mode r.text.width r.text.source), e)) (ended r.text)
    (λ e inside. inside)
    (known (IsTextWithin m.wrap_width) (ended r.text) (λ e is. laws.ended m.wrap_width r.text e runs is))))

pub line_broken : {S : Type 0} (laws : TextLaws S) (m : Measure) (tag : S) (b : Laid S) → IsKept m → IsWithin m b
    → IfSome (break_line m tag b) (IsWithin m)
line_broken laws m tag b kept within = broke_of laws m tag b.running b kept within.running within
