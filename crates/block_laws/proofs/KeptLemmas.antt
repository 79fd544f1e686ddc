-- Each call of a renderer that fits keeps its lines within its width.
use Rattle.std.proofs.Common.{◌≡◌, ◌+◌, ◌≤◌, [], ◌∷◌, ◌∙◌, Bool, IfSome, List, None, Option, Some, ap, arith, false}
use Rattle.std.proofs.Common.{refl, subst, sym, true, ℕ}
use Rattle.std.specs.Prelude.{All, fold, nat_lt, if◌then◌else◌}
use Rattle.std.specs.Option.{option_map, option_and_then}
use Rattle.std.proofs.lemmas.List.{length-replicate}
use Rattle.std.proofs.lemmas.List.Elements.{All-nil, All-cons, All-head, All-tail}
use Rattle.text_pieces.specs.declared.white_space.WhiteSpace.{WhiteSpace}
use Rattle.text_decorators.specs.Marks.{Mark, link_end, strikeout_start, strikeout_end, image}
use Rattle.text_lines.specs.Columns.{text_columns}
use Rattle.text_lines.specs.Tagged.{Item, line_columns}
use Rattle.text_footnotes.specs.Footnotes.{footnote_lines}
use Rattle.block_renderer.specs.Footnotes.{add_footnote, add_footnotes}
use Rattle.text_borders.specs.Borders.{Border, plain, horizontal}
use Rattle.text_borders.specs.Lines.{border}
use Rattle.text_borders.specs.Across.{Cell, CellLine, width_across}
use Rattle.text_borders.specs.AcrossLaws.{LineFits, CellFits}
use Rattle.block_layout.specs.declared.measure.Measure.{Measure}
use Rattle.block_layout.specs.Laid.{Laid, add_block, add_border, add_empty_line, add_horizontal_border, add_text}
use Rattle.block_layout.specs.Laid.{add_text_lines, break_line, end_block, flush, is_ignored, mark, start_awaited}
use Rattle.block_layout.specs.Laid.{start_block, start_table}
use Rattle.block_layout.specs.LaidRows.{add_row, row_laid, add_slashes, last_border}
use Rattle.block_layout_laws.specs.LayoutLaws.{IsKept, IsWithin}
use Rattle.block_layout_laws.proofs.OptionLemmas.{known, mapped, chained}
use Rattle.block_trait.specs.Renderers.{Marking, Sub, add_below, add_cells, add_first, add_inline, add_rows_below}
use Rattle.block_trait.specs.Renderers.{add_sub, add_titled, append_sub, before_cells, begin, begin_colour, begin_link}
use Rattle.block_trait.specs.Renderers.{begin_strikeout, cell_of_sub, cells_of_subs, finish, finish_colour, finish_link}
use Rattle.block_trait.specs.Renderers.{flush_sub, image_title, measure_of, mode_of, on_laid, popped}
use Rattle.block_trait.specs.Renderers.{preformatted_added, pushed, ruled, slashed, struck_less, struck_more}
use Rattle.block_trait.specs.Renderers.{struck_text, tagged_added, text_added, with_block, with_cells, with_held}
use Rattle.block_trait.specs.Renderers.{with_laid}
use Rattle.block_trait.specs.Calls.{Call, adds_block, adds_border, adds_border_of, adds_cells, adds_empty_line}
use Rattle.block_trait.specs.Calls.{adds_image, adds_rows_below, adds_text, breaks_line, ends_block, ends_colour}
use Rattle.block_trait.specs.Calls.{ends_line, ends_link, ends_mark, ends_mode, ends_preformat, ends_strikeout}
use Rattle.block_trait.specs.Calls.{starts_block, starts_colour, starts_fragment, starts_link, starts_mark, starts_mode}
use Rattle.block_trait.specs.Calls.{starts_preformat, starts_strikeout, starts_table, step}
use Rattle.block_laws.specs.RendererLaws.{IsKeptWithin, StaysWithin, FitsAfter, RowFits, CallFits, AllFit, after}

-- what the crate below says of blocks
pub record WidthLaws (S : Type 0) : Type 0 where
  pub flushed : (m : Measure) (tag : S) (b new : Laid S) → IsKept m → IsWithin m b → flush m tag b ≡ Some new
      → IsWithin m new
  pub lines_taken : (m : Measure) (tag fill : S) (lines : List (List (Item S))) (b : Laid S) → IsKept m → IsWithin m b
      → All (λ line. line_columns line ≤ m.width) lines → IsWithin m (add_text_lines m tag fill lines b)
  pub empty_line : (m : Measure) (tag : S) (b new : Laid S) → IsKept m → IsWithin m b
      → add_empty_line m tag b ≡ Some new → IsWithin m new
  pub block_started : (m : Measure) (tag : S) (b new : Laid S) → IsKept m → IsWithin m b
      → start_block m tag b ≡ Some new → IsWithin m new
  pub table_started : (m : Measure) (tag : S) (b new : Laid S) → IsKept m → IsWithin m b
      → start_table m tag b ≡ Some new → IsWithin m new
  pub block_ended : (m : Measure) (b : Laid S) → IsWithin m b → IsWithin m (end_block b)
  pub awaited : (m : Measure) (tag : S) (b new : Laid S) → IsKept m → IsWithin m b
      → start_awaited m tag b ≡ Some new → IsWithin m new
  pub text_taken : (m : Measure) (tag : S) (mode : WhiteSpace) (cs : List ℕ) (main further : S) (b new : Laid S)
      → IsKept m → IsWithin m b → add_text m tag mode cs main further b ≡ Some new → IsWithin m new
  pub marked : (m : Measure) (tag : S) (name : List ℕ) (b : Laid S) → IsKept m → IsWithin m b
      → IsWithin m (mark m tag name b)
  pub line_broken : (m : Measure) (tag : S) (b new : Laid S) → IsKept m → IsWithin m b
      → break_line m tag b ≡ Some new → IsWithin m new
  pub border_drawn : (m : Measure) (tag : S) (width : ℕ) (b new : Laid S) → IsKept m → IsWithin m b
      → width ≤ m.width → add_horizontal_border m tag width b ≡ Some new → IsWithin m new
  pub border_taken : (m : Measure) (new : Border S) (b : Laid S) → IsWithin m b → LineFits m.width (border new)
      → IsWithin m (add_border new b)
  pub slashes_taken : (m : Measure) (tag : S) (width : ℕ) (b : Laid S) → IsWithin m b → width ≤ m.width
      → IsWithin m (add_slashes width tag b)
  pub block_taken : (other m : Measure) (tag : S) (first following : List ℕ) (lines : List (CellLine S)) (b : Laid S)
      → IsWithin m b → All (λ l. LineFits other.width l.line) lines → text_columns first + other.width ≤ m.width
      → text_columns following + other.width ≤ m.width → IsWithin m (add_block other m tag first following lines b)
  pub row_taken : (m : Measure) (tag : S) (draws collapse : Bool) (cells : List (Cell S)) (b flushed new : Laid S)
      → IsKept m → IsWithin m b → All CellFits cells → flush m tag b ≡ Some flushed
      → width_across collapse tag (last_border flushed.lines) cells flushed.hanging ≤ m.width
      → add_row m tag draws collapse cells b ≡ Some new → IsWithin m new

-- ---- what stays

pub kept_measure : {H A : Type 0} (s : Sub H A) → IsKeptWithin s → IsKept (measure_of s)
kept_measure s kept = record { no_overflow = kept.0; wraps_within = omega arith }

stays : {H A : Type 0} (s : Sub H A) → IsKeptWithin s → StaysWithin s s
stays s kept = (kept, (refl, refl))

stays_on : {H A : Type 0} (s x new : Sub H A) → StaysWithin s x → StaysWithin x new → StaysWithin s new
stays_on s x new before trailing = (trailing.0, (trailing.1.0 ∙ before.1.0, trailing.1.1 ∙ before.1.1))

-- other lines, under the same measure
relaid : {H A : Type 0} (s : Sub H A) (b : Laid (List A)) → IsKeptWithin s → IsWithin (measure_of s) b
    → StaysWithin s (with_laid s b)
relaid s b kept within = ((kept.0, within), (refl, refl))

laid_on : {H A : Type 0} (s : Sub H A) (o : Option (Laid (List A))) → IsKeptWithin s
    → IfSome o (IsWithin (measure_of s)) → IfSome (on_laid s o) (StaysWithin s)
laid_on s o kept within = mapped (IsWithin (measure_of s)) (StaysWithin s) (with_laid s) o
    (λ b inside. relaid s b kept inside) within

-- as a law says it
laid_by : {H A : Type 0} (s : Sub H A) (o : Option (Laid (List A))) → IsKeptWithin s
    → ((new : Laid (List A)) → o ≡ Some new → IsWithin (measure_of s) new) → IfSome (on_laid s o) (StaysWithin s)
laid_by s o kept law = laid_on s o kept (known (IsWithin (measure_of s)) o law)

stays_from : {H A : Type 0} (s x : Sub H A) (o : Option (Sub H A)) → StaysWithin s x → IfSome o (StaysWithin x)
    → IfSome o (StaysWithin s)
stays_from s x None before trailing = tt
stays_from s x (Some new) before trailing = stays_on s x new before trailing

-- two steps
stays_through : {H A : Type 0} (s : Sub H A) (o : Option (Sub H A)) (f : Sub H A → Option (Sub H A))
    → ((x : Sub H A) → StaysWithin s x → IfSome (f x) (StaysWithin x)) → IfSome o (StaysWithin s)
    → IfSome (option_and_then f o) (StaysWithin s)
stays_through s None f more first = tt
stays_through s (Some x) f more first = stays_from s x (f x) first (more x first)

-- ---- text

text_taken : {H A : Type 0} (laws : WidthLaws (List A)) (m : Marking H A) (cs : List ℕ) (s : Sub H A)
    (b : Laid (List A)) → IsKeptWithin s → IsWithin (measure_of s) b
    → IfSome (tagged_added m cs s b) (IsWithin (measure_of s))
text_taken laws m cs s b kept within = by_part (nat_lt 0 s.preformats)
  where
    by_part : (t : Bool) → IfSome (if t then preformatted_added m cs s b
        else add_text (measure_of s) s.annotations (mode_of s) cs s.annotations s.annotations b)
        (IsWithin (measure_of s))
    by_part true = known (IsWithin (measure_of s)) (preformatted_added m cs s b)
        (λ new is. laws.text_taken (measure_of s) s.annotations (mode_of s) cs _ _ b new (kept_measure s kept) within
        is)
    by_part false = known (IsWithin (measure_of s))
        (add_text (measure_of s) s.annotations (mode_of s) cs s.annotations s.annotations b)
        (λ new is. laws.text_taken (measure_of s) s.annotations (mode_of s) cs s.annotations s.annotations b new
        (kept_measure s kept) within is)

inline_taken : {H A : Type 0} (laws : WidthLaws (List A)) (m : Marking H A) (cs : List ℕ) (s : Sub H A)
    → IsKeptWithin s → IfSome (add_inline m cs s) (StaysWithin s)
inline_taken laws m cs s kept = by_text (is_ignored (mode_of s) cs s.laid)
  where
    by_text : (t : Bool) → IfSome (if t then Some s else on_laid s (option_and_then (text_added m cs s)
        (start_awaited (measure_of s) s.annotations s.laid))) (StaysWithin s)
    by_text true = stays s kept
    by_text false = laid_on s
        (option_and_then (text_added m cs s) (start_awaited (measure_of s) s.annotations s.laid)) kept
        (chained (IsWithin (measure_of s)) (IsWithin (measure_of s)) (text_added m cs s)
        (start_awaited (measure_of s) s.annotations s.laid)
        (λ b inside. text_taken laws m (struck_text s cs) s b kept inside)
        (known (IsWithin (measure_of s)) (start_awaited (measure_of s) s.annotations s.laid)
        (λ new is. laws.awaited (measure_of s) s.annotations s.laid new (kept_measure s kept) kept.1 is)))

-- ---- marks

begun : {H A : Type 0} (laws : WidthLaws (List A)) (m : Marking H A) (kind : Mark) (s : Sub H A) → IsKeptWithin s
    → IfSome (begin m kind s) (StaysWithin s)
begun laws m kind s kept = inline_taken laws m (m.mark_text s.held kind) (pushed (m.mark_tag s.held kind) s) kept

finished : {H A : Type 0} (laws : WidthLaws (List A)) (m : Marking H A) (kind : Mark) (s : Sub H A) → IsKeptWithin s
    → IfSome (finish m kind s) (StaysWithin s)
finished laws m kind s kept =
    mapped (StaysWithin s) (StaysWithin s) popped (add_inline m (m.mark_text s.held kind) s) (λ x inside. inside)
    (inline_taken laws m (m.mark_text s.held kind) s kept)

link_begun : {H A : Type 0} (laws : WidthLaws (List A)) (m : Marking H A) (kind : Mark) (s : Sub H A)
    → IsKeptWithin s → IfSome (begin_link m kind s) (StaysWithin s)
link_begun laws m kind s kept =
    inline_taken laws m (m.mark_text s.held kind)
    (pushed (m.mark_tag s.held kind) (with_held (m.after s.held kind) s)) kept

link_finished : {H A : Type 0} (laws : WidthLaws (List A)) (m : Marking H A) (kind : Mark) (s : Sub H A)
    → IsKeptWithin s → IfSome (finish_link m kind s) (StaysWithin s)
link_finished laws m kind s kept =
    mapped (StaysWithin s) (StaysWithin s) popped
    (add_inline m (m.mark_text s.held kind) (with_held (m.after s.held kind) s)) (λ x inside. inside)
    (inline_taken laws m (m.mark_text s.held kind) (with_held (m.after s.held kind) s) kept)

strikeout_begun : {H A : Type 0} (laws : WidthLaws (List A)) (m : Marking H A) (s : Sub H A) → IsKeptWithin s
    → IfSome (begin_strikeout m s) (StaysWithin s)
strikeout_begun laws m s kept =
    mapped (StaysWithin s) (StaysWithin s) struck_more (begin m strikeout_start s) (λ x inside. inside)
    (begun laws m strikeout_start s kept)

titled_added : {H A : Type 0} (laws : WidthLaws (List A)) (m : Marking H A) (source : List ℕ)
    (title : Option (List ℕ)) (s : Sub H A) → IsKeptWithin s → IfSome (add_titled m source title s) (StaysWithin s)
titled_added laws m source None s kept = stays s kept
titled_added laws m source (Some title) s kept =
    mapped (StaysWithin s) (StaysWithin s) popped (begin_link m (image source title) s) (λ x inside. inside)
    (link_begun laws m (image source title) s kept)

colour_begun : {H A : Type 0} (m : Marking H A) (kind : Mark) (s : Sub H A) → IsKeptWithin s
    → StaysWithin s (begin_colour m kind s)
colour_begun m kind s kept = by_tag (m.has_tag s.held kind)
  where
    by_tag : (t : Bool) → StaysWithin s
        (if t then pushed (m.mark_tag s.held kind) (with_held (m.after s.held kind) s)
        else with_held (m.after s.held kind) s)
    by_tag true = stays s kept
    by_tag false = stays s kept

colour_finished : {H A : Type 0} (m : Marking H A) (kind : Mark) (s : Sub H A) → IsKeptWithin s
    → StaysWithin s (finish_colour m kind s)
colour_finished m kind s kept = by_tag (m.ends_tag s.held kind)
  where
    by_tag : (t : Bool) → StaysWithin s (if t then popped (with_held (m.after s.held kind) s)
        else with_held (m.after s.held kind) s)
    by_tag true = stays s kept
    by_tag false = stays s kept

-- ---- other blocks

sub_flushed : {H A : Type 0} (laws : WidthLaws (List A)) (s : Sub H A) → IsKeptWithin s
    → IfSome (flush_sub s) (StaysWithin s)
sub_flushed laws s kept = laid_by s (flush (measure_of s) s.annotations s.laid) kept
    (λ new is. laws.flushed (measure_of s) s.annotations s.laid new (kept_measure s kept) kept.1 is)

-- a width that is as before fits as before
fits_as : (front width new most : ℕ) → new ≡ width → front + width ≤ most → front + new ≤ most
fits_as front width new most e fits = omega (arith, e, fits)

fits_in : (front width most new : ℕ) → new ≡ most → front + width ≤ most → front + width ≤ new
fits_in front width most new e fits = omega (arith, e, fits)

appended : {H A : Type 0} (laws : WidthLaws (List A)) (other : Sub H A) (first following : List ℕ) (s : Sub H A)
    → IsKeptWithin other → FitsAfter first other s → FitsAfter following other s → IsKeptWithin s
    → IfSome (append_sub other first following s) (StaysWithin s)
appended laws other first following s taken here trailing kept =
    mapped (StaysWithin other) (StaysWithin s) (with_block s first following) (flush_sub other)
    (λ x inside. relaid s
    (add_block (measure_of x) (measure_of s) s.annotations first following x.laid.lines s.laid) kept
    (laws.block_taken (measure_of x) (measure_of s) s.annotations first following x.laid.lines s.laid kept.1
    inside.0.1.lines (fits_as (text_columns first) other.width x.width s.width inside.1.0 here)
    (fits_as (text_columns following) other.width x.width s.width inside.1.0 trailing)))
    (sub_flushed laws other taken)

sub_added : {H A : Type 0} (laws : WidthLaws (List A)) (other : Sub H A) (first following : List ℕ) (s : Sub H A)
    → IsKeptWithin other → FitsAfter first other s → FitsAfter following other s → IsKeptWithin s
    → IfSome (add_sub other first following s) (StaysWithin s)
sub_added laws other first following s taken here trailing kept =
    stays_through s (flush_sub s) (append_sub other first following)
    (λ x inside. appended laws other first following x taken
    (fits_in (text_columns first) other.width s.width x.width inside.1.0 here)
    (fits_in (text_columns following) other.width s.width x.width inside.1.0 trailing) inside.0)
    (sub_flushed laws s kept)

-- ---- rows

abbrev CellIsKept : {H A : Type 0} → Sub H A × ℕ → Type 0
CellIsKept c = IsKeptWithin c.0

cells_fit : {H A : Type 0} (laws : WidthLaws (List A)) (cells : List (Sub H A × ℕ)) → All CellIsKept cells
    → IfSome (cells_of_subs cells) (All CellFits)
cells_fit laws [] all = All-nil CellFits
cells_fit {H} {A} laws (c ∷ cells) all =
    chained (StaysWithin c.0) (All CellFits) (before_cells c.1 (cells_of_subs cells)) (flush_sub c.0)
    (λ x inside. mapped (All CellFits) (All CellFits) (λ (cs : List (Cell (List A))). cell_of_sub c.1 x ∷ cs)
    (cells_of_subs cells) (λ cs fit. All-cons CellFits (cell_of_sub c.1 x) cs inside.0.1.lines fit)
    (cells_fit laws cells (All-tail CellIsKept c cells all)))
    (sub_flushed laws c.0 (All-head CellIsKept c cells all))

row_within : {S : Type 0} (laws : WidthLaws S) (m : Measure) (tag : S) (draws collapse : Bool) (cells : List (Cell S))
    (b : Laid S) → IsKept m → IsWithin m b → All CellFits cells
    → ((flushed : Laid S) → flush m tag b ≡ Some flushed
    → width_across collapse tag (last_border flushed.lines) cells flushed.hanging ≤ m.width)
    → IfSome (add_row m tag draws collapse cells b) (IsWithin m)
row_within {S} laws m tag draws collapse cells b kept within all fits = by_flush (flush m tag b) refl
  where
    by_flush : (o : Option (Laid S)) → flush m tag b ≡ o
        → IfSome (option_map (row_laid m tag draws collapse cells) o) (IsWithin m)
    by_flush None is = tt
    by_flush (Some flushed) is =
        laws.row_taken m tag draws collapse cells b flushed (row_laid m tag draws collapse cells flushed) kept within
        all is (fits flushed is) (ap (option_map (row_laid m tag draws collapse cells)) is)

cells_added : {H A : Type 0} (laws : WidthLaws (List A)) (cells : List (Sub H A × ℕ)) (collapse : Bool) (s : Sub H A)
    → All CellIsKept cells → RowFits cells collapse s → IsKeptWithin s
    → IfSome (add_cells cells collapse s) (StaysWithin s)
cells_added {H} {A} laws cells collapse s all fits kept =
    by_cells (cells_of_subs cells) refl (cells_fit laws cells all)
  where
    by_cells : (o : Option (List (Cell (List A)))) → cells_of_subs cells ≡ o → IfSome o (All CellFits)
        → IfSome (option_and_then (with_cells collapse s) o) (StaysWithin s)
    by_cells None are fit = tt
    by_cells (Some row) are fit =
        laid_on s (add_row (measure_of s) s.annotations s.options.draw_borders collapse row s.laid) kept
        (row_within laws (measure_of s) s.annotations s.options.draw_borders collapse row s.laid (kept_measure s kept)
        kept.1 fit (λ flushed is. fits flushed row is are))

-- ---- cells below one another

abbrev FitsBelow : {H A : Type 0} → ℕ → Sub H A → Type 0
FitsBelow width c = IsKeptWithin c × (c.width ≤ width)

slashes_kept : {H A : Type 0} (laws : WidthLaws (List A)) (s : Sub H A) → IsKeptWithin s → StaysWithin s (slashed s)
slashes_kept laws s kept = by_borders s.options.draw_borders
  where
    by_borders : (t : Bool) → StaysWithin s
        (if t then with_laid s (add_slashes s.width s.annotations s.laid) else s)
    by_borders true = relaid s (add_slashes s.width s.annotations s.laid) kept
        (laws.slashes_taken (measure_of s) s.annotations s.width s.laid kept.1 (omega arith))
    by_borders false = stays s kept

rule_fits : {S : Type 0} (width : ℕ) (tag : S) → LineFits width (border (plain horizontal width tag))
rule_fits width tag = (omega arith, omega (arith, length-replicate width horizontal))

rule_kept : {H A : Type 0} (laws : WidthLaws (List A)) (s : Sub H A) → IsKeptWithin s → StaysWithin s (ruled s)
rule_kept laws s kept = by_borders s.options.draw_borders
  where
    by_borders : (t : Bool) → StaysWithin s (if t then with_laid s
        (add_border (plain horizontal s.width s.annotations) s.laid) else s)
    by_borders true = relaid s (add_border (plain horizontal s.width s.annotations) s.laid) kept
        (laws.border_taken (measure_of s) (plain horizontal s.width s.annotations) s.laid kept.1
        (rule_fits s.width s.annotations))
    by_borders false = stays s kept

-- a cell without a prefix
below_taken : {H A : Type 0} (laws : WidthLaws (List A)) (width : ℕ) (c s : Sub H A) → FitsBelow width c
    → s.width ≡ width → IsKeptWithin s → IfSome (append_sub c [] [] s) (StaysWithin s)
below_taken laws width c s fits same kept =
    appended laws c [] [] s fits.0 (omega (arith, same, fits.1)) (omega (arith, same, fits.1)) kept

below_added : {H A : Type 0} (laws : WidthLaws (List A)) (width : ℕ) (cells : List (Sub H A)) (s : Sub H A)
    → All (FitsBelow width) cells → s.width ≡ width → IsKeptWithin s → IfSome (add_below cells s) (StaysWithin s)
below_added laws width [] s all same kept = stays s kept
below_added laws width (c ∷ cells) s all same kept =
    let slashed_stays = slashes_kept laws s kept in
    stays_through s (append_sub c [] [] (slashed s)) (add_below cells)
    (λ x inside. below_added laws width cells x (All-tail (FitsBelow width) c cells all) (inside.1.0 ∙ same) inside.0)
    (stays_from s (slashed s) (append_sub c [] [] (slashed s)) slashed_stays
    (below_taken laws width c (slashed s) (All-head (FitsBelow width) c cells all) (slashed_stays.1.0 ∙ same)
    slashed_stays.0))

first_added : {H A : Type 0} (laws : WidthLaws (List A)) (width : ℕ) (cells : List (Sub H A)) (s : Sub H A)
    → All (FitsBelow width) cells → s.width ≡ width → IsKeptWithin s → IfSome (add_first cells s) (StaysWithin s)
first_added laws width [] s all same kept = stays s kept
first_added laws width (c ∷ cells) s all same kept =
    stays_through s (append_sub c [] [] s) (add_below cells)
    (λ x inside. below_added laws width cells x (All-tail (FitsBelow width) c cells all) (inside.1.0 ∙ same) inside.0)
    (below_taken laws width c s (All-head (FitsBelow width) c cells all) same kept)

rows_added : {H A : Type 0} (laws : WidthLaws (List A)) (cells : List (Sub H A)) (s : Sub H A)
    → All (FitsBelow s.width) cells → IsKeptWithin s → IfSome (add_rows_below cells s) (StaysWithin s)
rows_added laws cells s all kept =
    mapped (StaysWithin s) (StaysWithin s) ruled (option_and_then (add_first cells) (flush_sub s))
    (λ x inside. stays_on s x (ruled x) inside (rule_kept laws x inside.0))
    (stays_through s (flush_sub s) (add_first cells)
    (λ x inside. first_added laws s.width cells x all inside.1.0 inside.0) (sub_flushed laws s kept))

-- ---- lines after the page

abbrev NotesFit : Type 0 → Type 0
NotesFit A = (width : ℕ) (items : List (Item A)) → 2 ≤ width
    → All (λ line. line_columns line ≤ width) (footnote_lines true width items)

notes_within : {H A : Type 0} (laws : WidthLaws (List A)) (notes : NotesFit A) (lines : List (List (Item A)))
    (s : Sub H A) (b : Laid (List A)) → IsKeptWithin s → s.options.wrap_links ≡ true → 2 ≤ s.width
    → IsWithin (measure_of s) b → IsWithin (measure_of s) (fold (add_footnote s) b lines)
notes_within laws notes [] s b kept wraps wide within = within
notes_within {H} {A} laws notes (line ∷ lines) s b kept wraps wide within =
    notes_within laws notes lines s (add_footnote s b line) kept wraps wide
    (laws.lines_taken (measure_of s) s.annotations s.annotations
    (footnote_lines s.options.wrap_links s.width line) b (kept_measure s kept) within
    (subst (λ w. All (λ (l : List (Item (List A))). line_columns l ≤ s.width) (footnote_lines w s.width line))
    (sym wraps) (notes s.width line wide)))

pub notes_added : {H A : Type 0} (laws : WidthLaws (List A)) (notes : NotesFit A) (lines : List (List (Item A)))
    (s : Sub H A) → IsKeptWithin s → s.options.wrap_links ≡ true → 2 ≤ s.width
    → IfSome (add_footnotes lines s) (StaysWithin s)
notes_added laws notes lines s kept wraps wide =
    laid_on s (option_map (λ b. fold (add_footnote s) b lines) (flush (measure_of s) s.annotations s.laid)) kept
    (mapped (IsWithin (measure_of s)) (IsWithin (measure_of s)) (λ b. fold (add_footnote s) b lines)
    (flush (measure_of s) s.annotations s.laid)
    (λ b inside. notes_within laws notes lines s b kept wraps wide inside)
    (known (IsWithin (measure_of s)) (flush (measure_of s) s.annotations s.laid)
    (λ new is. laws.flushed (measure_of s) s.annotations s.laid new (kept_measure s kept) kept.1 is)))

-- ---- calls

pub step_stays : {H A : Type 0} (laws : WidthLaws (List A)) (m : Marking H A) (c : Call (Sub H A)) (s : Sub H A)
    → IsKeptWithin s → CallFits c s → IfSome (step m c s) (StaysWithin s)
step_stays laws m adds_empty_line s kept fits = laid_by s (add_empty_line (measure_of s) s.annotations s.laid) kept
    (λ new is. laws.empty_line (measure_of s) s.annotations s.laid new (kept_measure s kept) kept.1 is)
step_stays laws m starts_block s kept fits = laid_by s (start_block (measure_of s) s.annotations s.laid) kept
    (λ new is. laws.block_started (measure_of s) s.annotations s.laid new (kept_measure s kept) kept.1 is)
step_stays laws m starts_table s kept fits = laid_by s (start_table (measure_of s) s.annotations s.laid) kept
    (λ new is. laws.table_started (measure_of s) s.annotations s.laid new (kept_measure s kept) kept.1 is)
step_stays laws m ends_block s kept fits =
    relaid s (end_block s.laid) kept (laws.block_ended (measure_of s) s.laid kept.1)
step_stays laws m ends_line s kept fits = sub_flushed laws s kept
step_stays laws m breaks_line s kept fits = laid_by s (break_line (measure_of s) s.annotations s.laid) kept
    (λ new is. laws.line_broken (measure_of s) s.annotations s.laid new (kept_measure s kept) kept.1 is)
step_stays laws m adds_border s kept fits =
    laid_by s (add_horizontal_border (measure_of s) s.annotations s.width s.laid) kept
    (λ new is. laws.border_drawn (measure_of s) s.annotations s.width s.laid new (kept_measure s kept) kept.1
    (omega arith) is)
step_stays laws m (adds_border_of width) s kept fits =
    laid_by s (add_horizontal_border (measure_of s) s.annotations width s.laid) kept
    (λ new is. laws.border_drawn (measure_of s) s.annotations width s.laid new (kept_measure s kept) kept.1 fits is)
step_stays laws m starts_preformat s kept fits = stays s kept
step_stays laws m ends_preformat s kept fits = stays s kept
step_stays laws m (starts_mode mode) s kept fits = stays s kept
step_stays laws m ends_mode s kept fits = stays s kept
step_stays laws m (adds_text cs) s kept fits = inline_taken laws m cs s kept
step_stays laws m (starts_link kind) s kept fits = link_begun laws m kind s kept
step_stays laws m ends_link s kept fits = link_finished laws m link_end s kept
step_stays laws m starts_strikeout s kept fits = strikeout_begun laws m s kept
step_stays laws m ends_strikeout s kept fits = finished laws m strikeout_end (struck_less s) kept
step_stays laws m (starts_mark kind) s kept fits = begun laws m kind s kept
step_stays laws m (ends_mark kind) s kept fits = finished laws m kind s kept
step_stays laws m (adds_image source title) s kept fits =
    titled_added laws m source (image_title s.options.img_mode source title) s kept
step_stays laws m (starts_fragment name) s kept fits =
    relaid s (mark (measure_of s) s.annotations name s.laid) kept
    (laws.marked (measure_of s) s.annotations name s.laid (kept_measure s kept) kept.1)
step_stays laws m (starts_colour kind) s kept fits = colour_begun m kind s kept
step_stays laws m (ends_colour kind) s kept fits = colour_finished m kind s kept
step_stays laws m (adds_block other first following) s kept fits =
    sub_added laws other first following s fits.0 fits.1.0 fits.1.1 kept
step_stays laws m (adds_cells cells collapse) s kept fits = cells_added laws cells collapse s fits.0 fits.1 kept
step_stays laws m (adds_rows_below cells) s kept fits = rows_added laws cells s fits kept

pub all_stay : {H A : Type 0} (laws : WidthLaws (List A)) (m : Marking H A) (calls : List (Call (Sub H A)))
    (s : Sub H A) → IsKeptWithin s → AllFit m calls s → IfSome (after m calls s) (StaysWithin s)
all_stay laws m [] s kept fit = stays s kept
all_stay {H} {A} laws m (c ∷ calls) s kept fit =
    by_step (step m c s) (step_stays laws m c s kept fit.0) fit.1
    (λ x inside fits. all_stay laws m calls x inside fits)
  where
    by_step : (o : Option (Sub H A)) → IfSome o (StaysWithin s) → IfSome o (AllFit m calls)
        → ((x : Sub H A) → IsKeptWithin x → AllFit m calls x → IfSome (after m calls x) (StaysWithin x))
        → IfSome (option_and_then (after m calls) o) (StaysWithin s)
    by_step None first rest more = tt
    by_step (Some x) first rest more =
        stays_from s x (after m calls x) first (more x first.0 rest)
