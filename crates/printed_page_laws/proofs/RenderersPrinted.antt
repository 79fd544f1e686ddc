-- Each call of a renderer keeps its lines free of control characters.
use Rattle.std.proofs.Common.{◌≡◌, [], ◌∷◌, Bool, IfSome, List, None, Option, Some, false, true, ℕ}
use Rattle.std.specs.Prelude.{All, nat_lt, if◌then◌else◌}
use Rattle.std.specs.Option.{option_and_then}
use Rattle.std.proofs.lemmas.List.Elements.{All-nil, All-cons, All-head, All-tail}
use Rattle.text_decorators.specs.Marks.{Mark, image, link_end, strikeout_end, strikeout_start}
use Rattle.text_borders.specs.Borders.{horizontal, plain}
use Rattle.text_borders.specs.Across.{Cell}
use Rattle.block_layout.specs.Laid.{Laid, add_border, add_empty_line, add_horizontal_border, add_text, break_line}
use Rattle.block_layout.specs.Laid.{flush, is_ignored, start_awaited, start_block, start_table}
use Rattle.block_layout.specs.LaidRows.{add_row, add_slashes}
use Rattle.block_layout_laws.proofs.OptionLemmas.{chained, known, mapped}
use Rattle.block_trait.specs.Renderers.{Marking, Sub, add_below, add_cells, add_first, add_inline, add_rows_below}
use Rattle.block_trait.specs.Renderers.{add_sub, add_titled, append_sub, before_cells, begin, begin_colour, begin_link}
use Rattle.block_trait.specs.Renderers.{begin_strikeout, cell_of_sub, cells_of_subs, finish, finish_colour, finish_link}
use Rattle.block_trait.specs.Renderers.{flush_sub, image_title, measure_of, mode_of, on_laid, popped}
use Rattle.block_trait.specs.Renderers.{preformatted_added, pushed, ruled, slashed, struck_less, struck_more}
use Rattle.block_trait.specs.Renderers.{struck_text, tagged_added, text_added, with_block, with_cells, with_held}
use Rattle.block_trait.specs.Renderers.{with_laid}
use Rattle.block_trait.specs.Calls.{Call, adds_block, adds_border, adds_border_of, adds_cells, adds_empty_line}
use Rattle.block_trait.specs.Calls.{adds_image, adds_rows_below, adds_text, breaks_line, ends_block, ends_colour}
use Rattle.block_trait.specs.Calls.{ends_line, ends_link, ends_mark, ends_mode, ends_preformat, ends_strikeout}
use Rattle.block_trait.specs.Calls.{starts_block, starts_colour, starts_fragment, starts_link, starts_mark, starts_mode}
use Rattle.block_trait.specs.Calls.{starts_preformat, starts_strikeout, starts_table, step}
use Rattle.printed_block_laws.specs.Printed.{IsPrinted, IsPrintedBlock, IsPrintedCell}
use Rattle.printed_page_laws.proofs.BlockWords.{KeepsPrinted}

-- what is laid holds none, and targets are made printable
abbrev pub IsPrintedSub : {H A : Type 0} → Sub H A → Type 0
IsPrintedSub s = IsPrintedBlock s.laid × (s.options.printable_targets ≡ true)

-- So it is with each renderer that the call takes, and the prefixes of a block hold none.
abbrev pub CallIsPrinted : {H A : Type 0} → Call (Sub H A) → Type 0
CallIsPrinted (adds_block other first following) =
    IsPrintedSub other × (All IsPrinted first × All IsPrinted following)
CallIsPrinted (adds_cells cells collapse) = All (λ c. IsPrintedSub c.0) cells
CallIsPrinted (adds_rows_below cells) = All IsPrintedSub cells
CallIsPrinted _ = Unit

-- ---- text

pub laid_on : {H A : Type 0} (s : Sub H A) (o : Option (Laid (List A))) → IsPrintedSub s
    → IfSome o (IsPrintedBlock {S = List A}) → IfSome (on_laid s o) (IsPrintedSub {H = H} {A = A})
laid_on {H} {A} s o printed inside = mapped (IsPrintedBlock {S = List A}) (IsPrintedSub {H = H} {A = A}) (with_laid s) o
    (λ b new. (new, printed.1)) inside

-- as a law says it
laid_by : {H A : Type 0} (s : Sub H A) (o : Option (Laid (List A))) → IsPrintedSub s
    → ((new : Laid (List A)) → o ≡ Some new → IsPrintedBlock new) → IfSome (on_laid s o) (IsPrintedSub {H = H} {A = A})
laid_by {A = A} s o printed law = laid_on s o printed (known (IsPrintedBlock {S = List A}) o law)

text_taken : {H A : Type 0} (laws : KeepsPrinted (List A)) (m : Marking H A) (cs : List ℕ) (s : Sub H A)
    (b : Laid (List A)) → IsPrintedBlock b → IfSome (tagged_added m cs s b) (IsPrintedBlock {S = List A})
text_taken {H} {A} laws m cs s b inside = by_part (nat_lt 0 s.preformats)
  where
    by_part : (t : Bool) → IfSome (if t then preformatted_added m cs s b
        else add_text (measure_of s) s.annotations (mode_of s) cs s.annotations s.annotations b)
        (IsPrintedBlock {S = List A})
    by_part true = known (IsPrintedBlock {S = List A}) (preformatted_added m cs s b)
        (λ new is. laws.text_taken (measure_of s) s.annotations (mode_of s) cs _ _ b new inside is)
    by_part false = known (IsPrintedBlock {S = List A})
        (add_text (measure_of s) s.annotations (mode_of s) cs s.annotations s.annotations b)
        (λ new is. laws.text_taken (measure_of s) s.annotations (mode_of s) cs s.annotations s.annotations b new inside
        is)

-- any text, since characters that are controls are left out
pub inline_taken : {H A : Type 0} (laws : KeepsPrinted (List A)) (m : Marking H A) (cs : List ℕ) (s : Sub H A)
    → IsPrintedSub s → IfSome (add_inline m cs s) (IsPrintedSub {H = H} {A = A})
inline_taken {H} {A} laws m cs s printed = by_text (is_ignored (mode_of s) cs s.laid)
  where
    by_text : (t : Bool) → IfSome (if t then Some s else on_laid s (option_and_then (text_added m cs s)
        (start_awaited (measure_of s) s.annotations s.laid))) (IsPrintedSub {H = H} {A = A})
    by_text true = printed
    by_text false = laid_on s
        (option_and_then (text_added m cs s) (start_awaited (measure_of s) s.annotations s.laid)) printed
        (chained (IsPrintedBlock {S = List A}) (IsPrintedBlock {S = List A}) (text_added m cs s)
        (start_awaited (measure_of s) s.annotations s.laid)
        (λ b inside. text_taken laws m (struck_text s cs) s b inside)
        (known (IsPrintedBlock {S = List A}) (start_awaited (measure_of s) s.annotations s.laid)
        (λ new is. laws.awaited (measure_of s) s.annotations s.laid new printed.0 is)))

-- ---- marks

begins : {H A : Type 0} (laws : KeepsPrinted (List A)) (m : Marking H A) (kind : Mark) (s : Sub H A)
    → IsPrintedSub s → IfSome (begin m kind s) (IsPrintedSub {H = H} {A = A})
begins laws m kind s printed =
    inline_taken laws m (m.mark_text s.held kind) (pushed (m.mark_tag s.held kind) s) printed

finishes : {H A : Type 0} (laws : KeepsPrinted (List A)) (m : Marking H A) (kind : Mark) (s : Sub H A)
    → IsPrintedSub s → IfSome (finish m kind s) (IsPrintedSub {H = H} {A = A})
finishes {H} {A} laws m kind s printed =
    mapped (IsPrintedSub {H = H} {A = A}) (IsPrintedSub {H = H} {A = A}) popped
    (add_inline m (m.mark_text s.held kind) s) (λ x inside. inside)
    (inline_taken laws m (m.mark_text s.held kind) s printed)

pub begins_link : {H A : Type 0} (laws : KeepsPrinted (List A)) (m : Marking H A) (kind : Mark) (s : Sub H A)
    → IsPrintedSub s → IfSome (begin_link m kind s) (IsPrintedSub {H = H} {A = A})
begins_link laws m kind s printed =
    inline_taken laws m (m.mark_text s.held kind)
    (pushed (m.mark_tag s.held kind) (with_held (m.after s.held kind) s)) printed

pub finishes_link : {H A : Type 0} (laws : KeepsPrinted (List A)) (m : Marking H A) (kind : Mark) (s : Sub H A)
    → IsPrintedSub s → IfSome (finish_link m kind s) (IsPrintedSub {H = H} {A = A})
finishes_link {H} {A} laws m kind s printed =
    mapped (IsPrintedSub {H = H} {A = A}) (IsPrintedSub {H = H} {A = A}) popped
    (add_inline m (m.mark_text s.held kind) (with_held (m.after s.held kind) s)) (λ x inside. inside)
    (inline_taken laws m (m.mark_text s.held kind) (with_held (m.after s.held kind) s) printed)

begins_strikeout : {H A : Type 0} (laws : KeepsPrinted (List A)) (m : Marking H A) (s : Sub H A)
    → IsPrintedSub s → IfSome (begin_strikeout m s) (IsPrintedSub {H = H} {A = A})
begins_strikeout {H} {A} laws m s printed =
    mapped (IsPrintedSub {H = H} {A = A}) (IsPrintedSub {H = H} {A = A}) struck_more (begin m strikeout_start s)
    (λ x inside. inside) (begins laws m strikeout_start s printed)

adds_titled : {H A : Type 0} (laws : KeepsPrinted (List A)) (m : Marking H A) (source : List ℕ)
    (title : Option (List ℕ)) (s : Sub H A) → IsPrintedSub s
    → IfSome (add_titled m source title s) (IsPrintedSub {H = H} {A = A})
adds_titled laws m source None s printed = printed
adds_titled {H} {A} laws m source (Some title) s printed =
    mapped (IsPrintedSub {H = H} {A = A}) (IsPrintedSub {H = H} {A = A}) popped (begin_link m (image source title) s)
    (λ x inside. inside) (begins_link laws m (image source title) s printed)

begins_colour : {H A : Type 0} (m : Marking H A) (kind : Mark) (s : Sub H A) → IsPrintedSub s
    → IsPrintedSub (begin_colour m kind s)
begins_colour m kind s printed = by_tag (m.has_tag s.held kind)
  where
    by_tag : (t : Bool) → IsPrintedSub (if t
        then pushed (m.mark_tag s.held kind) (with_held (m.after s.held kind) s)
        else with_held (m.after s.held kind) s)
    by_tag true = printed
    by_tag false = printed

finishes_colour : {H A : Type 0} (m : Marking H A) (kind : Mark) (s : Sub H A) → IsPrintedSub s
    → IsPrintedSub (finish_colour m kind s)
finishes_colour m kind s printed = by_tag (m.ends_tag s.held kind)
  where
    by_tag : (t : Bool) → IsPrintedSub (if t then popped (with_held (m.after s.held kind) s)
        else with_held (m.after s.held kind) s)
    by_tag true = printed
    by_tag false = printed

-- ---- other blocks

flushes_sub : {H A : Type 0} (laws : KeepsPrinted (List A)) (s : Sub H A) → IsPrintedSub s
    → IfSome (flush_sub s) (IsPrintedSub {H = H} {A = A})
flushes_sub laws s printed = laid_by s (flush (measure_of s) s.annotations s.laid) printed
    (λ new is. laws.flushed (measure_of s) s.annotations s.laid new printed.0 is)

appends : {H A : Type 0} (laws : KeepsPrinted (List A)) (other : Sub H A) (first following : List ℕ) (s : Sub H A)
    → IsPrintedSub other → All IsPrinted first → All IsPrinted following → IsPrintedSub s
    → IfSome (append_sub other first following s) (IsPrintedSub {H = H} {A = A})
appends {H} {A} laws other first following s taken before trailing printed =
    mapped (IsPrintedSub {H = H} {A = A}) (IsPrintedSub {H = H} {A = A}) (with_block s first following)
    (flush_sub other)
    (λ x inside. (
      laws.block_taken (measure_of x) (measure_of s) s.annotations first following x.laid.lines s.laid
          printed.0 inside.0.lines before trailing,
      printed.1,
    )) (flushes_sub laws other taken)

adds_sub : {H A : Type 0} (laws : KeepsPrinted (List A)) (other : Sub H A) (first following : List ℕ) (s : Sub H A)
    → IsPrintedSub other → All IsPrinted first → All IsPrinted following → IsPrintedSub s
    → IfSome (add_sub other first following s) (IsPrintedSub {H = H} {A = A})
adds_sub {H} {A} laws other first following s taken before trailing printed =
    chained (IsPrintedSub {H = H} {A = A}) (IsPrintedSub {H = H} {A = A}) (append_sub other first following)
    (flush_sub s) (λ x inside. appends laws other first following x taken before trailing inside)
    (flushes_sub laws s printed)

cells_given : {H A : Type 0} (laws : KeepsPrinted (List A)) (cells : List (Sub H A × ℕ))
    → All (λ c. IsPrintedSub c.0) cells → IfSome (cells_of_subs cells) (All (IsPrintedCell {S = List A}))
cells_given {A = A} laws [] all = All-nil (IsPrintedCell {S = List A})
cells_given {H} {A} laws (c ∷ cells) all =
    chained (IsPrintedSub {H = H} {A = A}) (All (IsPrintedCell {S = List A})) (before_cells c.1 (cells_of_subs cells))
    (flush_sub c.0)
    (λ x inside. mapped (All (IsPrintedCell {S = List A})) (All (IsPrintedCell {S = List A}))
    (λ (cs : List (Cell (List A))). cell_of_sub c.1 x ∷ cs) (cells_of_subs cells)
    (λ cs given. All-cons (IsPrintedCell {S = List A}) (cell_of_sub c.1 x) cs inside.0.lines given)
    (cells_given laws cells (All-tail (λ (c : Sub H A × ℕ). IsPrintedSub c.0) c cells all)))
    (flushes_sub laws c.0 (All-head (λ (c : Sub H A × ℕ). IsPrintedSub c.0) c cells all))

takes_cells : {H A : Type 0} (laws : KeepsPrinted (List A)) (cells : List (Sub H A × ℕ)) (collapse : Bool)
    (s : Sub H A) → All (λ c. IsPrintedSub c.0) cells → IsPrintedSub s
    → IfSome (add_cells cells collapse s) (IsPrintedSub {H = H} {A = A})
takes_cells {H} {A} laws cells collapse s all printed =
    chained (All (IsPrintedCell {S = List A})) (IsPrintedSub {H = H} {A = A}) (with_cells collapse s)
    (cells_of_subs cells)
    (λ row given. laid_by s (add_row (measure_of s) s.annotations s.options.draw_borders collapse row s.laid) printed
    (λ new is. laws.row_taken (measure_of s) s.annotations s.options.draw_borders collapse row s.laid new printed.0
    given is)) (cells_given laws cells all)

-- ---- cells below one another

slashes : {H A : Type 0} (laws : KeepsPrinted (List A)) (s : Sub H A) → IsPrintedSub s → IsPrintedSub (slashed s)
slashes laws s printed = by_borders s.options.draw_borders
  where
    by_borders : (t : Bool) → IsPrintedSub (if t then with_laid s (add_slashes s.width s.annotations s.laid) else s)
    by_borders true = (laws.slashes_taken s.annotations s.width s.laid printed.0, printed.1)
    by_borders false = printed

rules : {H A : Type 0} (laws : KeepsPrinted (List A)) (s : Sub H A) → IsPrintedSub s → IsPrintedSub (ruled s)
rules laws s printed = by_borders s.options.draw_borders
  where
    by_borders : (t : Bool) → IsPrintedSub (if t then with_laid s
        (add_border (plain horizontal s.width s.annotations) s.laid) else s)
    by_borders true = (
      laws.border_taken (plain horizontal s.width s.annotations) s.laid printed.0 (All-nil _),
      printed.1,
    )
    by_borders false = printed

no_prefix : All IsPrinted []
no_prefix = All-nil IsPrinted

adds_below : {H A : Type 0} (laws : KeepsPrinted (List A)) (cells : List (Sub H A)) (s : Sub H A)
    → All IsPrintedSub cells → IsPrintedSub s → IfSome (add_below cells s) (IsPrintedSub {H = H} {A = A})
adds_below laws [] s all printed = printed
adds_below {H} {A} laws (c ∷ cells) s all printed =
    chained (IsPrintedSub {H = H} {A = A}) (IsPrintedSub {H = H} {A = A}) (add_below cells)
    (append_sub c [] [] (slashed s))
    (λ x inside. adds_below laws cells x (All-tail (IsPrintedSub {H = H} {A = A}) c cells all) inside)
    (appends laws c [] [] (slashed s) (All-head (IsPrintedSub {H = H} {A = A}) c cells all) no_prefix no_prefix
    (slashes laws s printed))

adds_first : {H A : Type 0} (laws : KeepsPrinted (List A)) (cells : List (Sub H A)) (s : Sub H A)
    → All IsPrintedSub cells → IsPrintedSub s → IfSome (add_first cells s) (IsPrintedSub {H = H} {A = A})
adds_first laws [] s all printed = printed
adds_first {H} {A} laws (c ∷ cells) s all printed =
    chained (IsPrintedSub {H = H} {A = A}) (IsPrintedSub {H = H} {A = A}) (add_below cells) (append_sub c [] [] s)
    (λ x inside. adds_below laws cells x (All-tail (IsPrintedSub {H = H} {A = A}) c cells all) inside)
    (appends laws c [] [] s (All-head (IsPrintedSub {H = H} {A = A}) c cells all) no_prefix no_prefix printed)

adds_rows : {H A : Type 0} (laws : KeepsPrinted (List A)) (cells : List (Sub H A)) (s : Sub H A)
    → All IsPrintedSub cells → IsPrintedSub s → IfSome (add_rows_below cells s) (IsPrintedSub {H = H} {A = A})
adds_rows {H} {A} laws cells s all printed =
    mapped (IsPrintedSub {H = H} {A = A}) (IsPrintedSub {H = H} {A = A}) ruled
    (option_and_then (add_first cells) (flush_sub s)) (λ x inside. rules laws x inside)
    (chained (IsPrintedSub {H = H} {A = A}) (IsPrintedSub {H = H} {A = A}) (add_first cells) (flush_sub s)
    (λ x inside. adds_first laws cells x all inside) (flushes_sub laws s printed))

-- ---- calls

pub step_printed : {H A : Type 0} (laws : KeepsPrinted (List A)) (m : Marking H A) (c : Call (Sub H A)) (s : Sub H A)
    → IsPrintedSub s → CallIsPrinted c → IfSome (step m c s) (IsPrintedSub {H = H} {A = A})
step_printed laws m adds_empty_line s printed taken = laid_by s (add_empty_line (measure_of s) s.annotations s.laid)
    printed (λ new is. laws.empty_line (measure_of s) s.annotations s.laid new printed.0 is)
step_printed laws m starts_block s printed taken = laid_by s (start_block (measure_of s) s.annotations s.laid) printed
    (λ new is. laws.block_started (measure_of s) s.annotations s.laid new printed.0 is)
step_printed laws m starts_table s printed taken = laid_by s (start_table (measure_of s) s.annotations s.laid) printed
    (λ new is. laws.table_started (measure_of s) s.annotations s.laid new printed.0 is)
step_printed laws m ends_block s printed taken = (laws.block_ended s.laid printed.0, printed.1)
step_printed laws m ends_line s printed taken = flushes_sub laws s printed
step_printed laws m breaks_line s printed taken = laid_by s (break_line (measure_of s) s.annotations s.laid) printed
    (λ new is. laws.line_broken (measure_of s) s.annotations s.laid new printed.0 is)
step_printed laws m adds_border s printed taken =
    laid_by s (add_horizontal_border (measure_of s) s.annotations s.width s.laid) printed
    (λ new is. laws.border_drawn (measure_of s) s.annotations s.width s.laid new printed.0 is)
step_printed laws m (adds_border_of width) s printed taken =
    laid_by s (add_horizontal_border (measure_of s) s.annotations width s.laid) printed
    (λ new is. laws.border_drawn (measure_of s) s.annotations width s.laid new printed.0 is)
step_printed laws m starts_preformat s printed taken = printed
step_printed laws m ends_preformat s printed taken = printed
step_printed laws m (starts_mode mode) s printed taken = printed
step_printed laws m ends_mode s printed taken = printed
step_printed laws m (adds_text cs) s printed taken = inline_taken laws m cs s printed
step_printed laws m (starts_link kind) s printed taken = begins_link laws m kind s printed
step_printed laws m ends_link s printed taken = finishes_link laws m link_end s printed
step_printed laws m starts_strikeout s printed taken = begins_strikeout laws m s printed
step_printed laws m ends_strikeout s printed taken = finishes laws m strikeout_end (struck_less s) printed
step_printed laws m (starts_mark kind) s printed taken = begins laws m kind s printed
step_printed laws m (ends_mark kind) s printed taken = finishes laws m kind s printed
step_printed laws m (adds_image source title) s printed taken =
    adds_titled laws m source (image_title s.options.img_mode source title) s printed
step_printed laws m (starts_fragment name) s printed taken =
    (laws.marked (measure_of s) s.annotations name s.laid printed.0, printed.1)
step_printed laws m (starts_colour kind) s printed taken = begins_colour m kind s printed
step_printed laws m (ends_colour kind) s printed taken = finishes_colour m kind s printed
step_printed laws m (adds_block other first following) s printed taken =
    adds_sub laws other first following s taken.0 taken.1.0 taken.1.1 printed
step_printed laws m (adds_cells cells collapse) s printed taken = takes_cells laws cells collapse s taken printed
step_printed laws m (adds_rows_below cells) s printed taken = adds_rows laws cells s taken printed
