-- Where a character that is wider than the lines may stand alone on one, no call of a renderer is refused.
use Rattle.std.proofs.Common.{ℕ, Bool, true, false, List, [], ◌∷◌, Option, None, Some}
use Rattle.std.specs.Prelude.{IsSomeAnd, All, fold, nat_lt, if◌then◌else◌}
use Rattle.std.specs.Option.{option_map, option_and_then}
use Rattle.std.proofs.lemmas.List.Elements.{All-head, All-tail}
use Rattle.text_pieces.specs.declared.white_space.WhiteSpace.{WhiteSpace}
use Rattle.text_decorators.specs.Marks.{Mark, link_end, strikeout_start, strikeout_end, image}
use Rattle.text_lines.specs.Tagged.{Item}
use Rattle.text_footnotes.specs.Footnotes.{footnote_lines}
use Rattle.block_renderer.specs.Footnotes.{add_footnote, add_footnotes}
use Rattle.text_borders.specs.Borders.{Border, plain, horizontal}
use Rattle.text_borders.specs.Across.{Cell, CellLine}
use Rattle.block_layout.specs.declared.measure.Measure.{Measure}
use Rattle.block_layout.specs.Laid.{Laid, add_block, add_border, add_empty_line, add_horizontal_border, add_text}
use Rattle.block_layout.specs.Laid.{add_text_lines, break_line, end_block, flush, is_ignored, mark, start_awaited}
use Rattle.block_layout.specs.Laid.{start_block, start_table}
use Rattle.block_layout.specs.LaidRows.{add_row, add_slashes}
use Rattle.block_layout_laws.specs.LayoutLaws.{AllowsOverflow}
use Rattle.block_layout_laws.proofs.OptionLemmas.{given_mapped, given_chained}
use Rattle.block_trait.specs.Renderers.{Marking, Sub, add_below, add_cells, add_first, add_inline, add_rows_below}
use Rattle.block_trait.specs.Renderers.{add_sub, add_titled, append_sub, before_cells, begin, begin_colour, begin_link}
use Rattle.block_trait.specs.Renderers.{begin_strikeout, cell_of_sub, cells_of_subs, finish, finish_colour, finish_link}
use Rattle.block_trait.specs.Renderers.{flush_sub, image_title, measure_of, mode_of, on_laid, popped}
use Rattle.block_trait.specs.Renderers.{preformatted_added, pushed, ruled, slashed, struck_less, struck_more}
use Rattle.block_trait.specs.Renderers.{struck_text, tagged_added, text_added, with_block, with_cells, with_held}
use Rattle.block_trait.specs.Renderers.{with_laid}
use Rattle.block_trait.specs.Calls.{Call, adds_block, adds_border, adds_border_of, adds_cells, adds_empty_line}
use Rattle.block_trait.specs.Calls.{adds_image, adds_rows_below, adds_text, breaks_line, ends_block, ends_colour}
use Rattle.block_trait.specs.Calls.{ends_line, ends_link, ends_mark, ends_mode, ends_preformat, ends_strikeout}
use Rattle.block_trait.specs.Calls.{starts_block, starts_colour, starts_fragment, starts_link, starts_mark, starts_mode}
use Rattle.block_trait.specs.Calls.{starts_preformat, starts_strikeout, starts_table, step}
use Rattle.block_laws.specs.RendererLaws.{HasRoom, CallHasRoom, after}

-- what the crate below says of blocks
pub record RoomLaws (S : Type 0) : Type 0 where
  pub flushes : (m : Measure) (tag : S) (b : Laid S) → AllowsOverflow m b
      → IsSomeAnd (flush m tag b) (AllowsOverflow m)
  pub takes_lines : (m : Measure) (tag fill : S) (lines : List (List (Item S))) (b : Laid S) → AllowsOverflow m b
      → AllowsOverflow m (add_text_lines m tag fill lines b)
  pub adds_line : (m : Measure) (tag : S) (b : Laid S) → AllowsOverflow m b
      → IsSomeAnd (add_empty_line m tag b) (AllowsOverflow m)
  pub begins_block : (m : Measure) (tag : S) (b : Laid S) → AllowsOverflow m b
      → IsSomeAnd (start_block m tag b) (AllowsOverflow m)
  pub begins_table : (m : Measure) (tag : S) (b : Laid S) → AllowsOverflow m b
      → IsSomeAnd (start_table m tag b) (AllowsOverflow m)
  pub finishes_block : (m : Measure) (b : Laid S) → AllowsOverflow m b → AllowsOverflow m (end_block b)
  pub begins_awaited : (m : Measure) (tag : S) (b : Laid S) → AllowsOverflow m b
      → IsSomeAnd (start_awaited m tag b) (AllowsOverflow m)
  pub takes_text : (m : Measure) (tag : S) (mode : WhiteSpace) (cs : List ℕ) (main further : S) (b : Laid S)
      → AllowsOverflow m b → IsSomeAnd (add_text m tag mode cs main further b) (AllowsOverflow m)
  pub marks : (m : Measure) (tag : S) (name : List ℕ) (b : Laid S) → AllowsOverflow m b
      → AllowsOverflow m (mark m tag name b)
  pub line_breaks : (m : Measure) (tag : S) (b : Laid S) → AllowsOverflow m b
      → IsSomeAnd (break_line m tag b) (AllowsOverflow m)
  pub draws_border : (m : Measure) (tag : S) (width : ℕ) (b : Laid S) → AllowsOverflow m b
      → IsSomeAnd (add_horizontal_border m tag width b) (AllowsOverflow m)
  pub takes_border : (m : Measure) (new : Border S) (b : Laid S) → AllowsOverflow m b
      → AllowsOverflow m (add_border new b)
  pub takes_slashes : (m : Measure) (tag : S) (width : ℕ) (b : Laid S) → AllowsOverflow m b
      → AllowsOverflow m (add_slashes width tag b)
  pub takes_block : (other m : Measure) (tag : S) (first following : List ℕ) (lines : List (CellLine S)) (b : Laid S)
      → AllowsOverflow m b → AllowsOverflow m (add_block other m tag first following lines b)
  pub takes_row : (m : Measure) (tag : S) (draws collapse : Bool) (cells : List (Cell S)) (b : Laid S)
      → AllowsOverflow m b → IsSomeAnd (add_row m tag draws collapse cells b) (AllowsOverflow m)

-- ---- text

laid_on : {H A : Type 0} (s : Sub H A) (o : Option (Laid (List A))) → IsSomeAnd o (AllowsOverflow (measure_of s))
    → IsSomeAnd (on_laid s o) HasRoom
laid_on s o room = given_mapped (AllowsOverflow (measure_of s)) HasRoom (with_laid s) o (λ b inside. inside) room

text_taken : {H A : Type 0} (laws : RoomLaws (List A)) (m : Marking H A) (cs : List ℕ) (s : Sub H A)
    (b : Laid (List A)) → AllowsOverflow (measure_of s) b
    → IsSomeAnd (tagged_added m cs s b) (AllowsOverflow (measure_of s))
text_taken {H} {A} laws m cs s b room = by_part (nat_lt 0 s.preformats)
  where
    by_part : (t : Bool) → IsSomeAnd (if t then preformatted_added m cs s b
        else add_text (measure_of s) s.annotations (mode_of s) cs s.annotations s.annotations b)
        (AllowsOverflow (measure_of s))
    by_part true = laws.takes_text (measure_of s) s.annotations (mode_of s) cs _ _ b room
    by_part false =
        laws.takes_text (measure_of s) s.annotations (mode_of s) cs s.annotations s.annotations b room

inline_taken : {H A : Type 0} (laws : RoomLaws (List A)) (m : Marking H A) (cs : List ℕ) (s : Sub H A) → HasRoom s
    → IsSomeAnd (add_inline m cs s) HasRoom
inline_taken laws m cs s room = by_text (is_ignored (mode_of s) cs s.laid)
  where
    by_text : (t : Bool) → IsSomeAnd (if t then Some s else on_laid s (option_and_then (text_added m cs s)
        (start_awaited (measure_of s) s.annotations s.laid))) HasRoom
    by_text true = room
    by_text false = laid_on s
        (option_and_then (text_added m cs s) (start_awaited (measure_of s) s.annotations s.laid))
        (given_chained (AllowsOverflow (measure_of s)) (AllowsOverflow (measure_of s)) (text_added m cs s)
        (start_awaited (measure_of s) s.annotations s.laid)
        (λ b inside. text_taken laws m (struck_text s cs) s b inside)
        (laws.begins_awaited (measure_of s) s.annotations s.laid room))

-- ---- marks

begins : {H A : Type 0} (laws : RoomLaws (List A)) (m : Marking H A) (kind : Mark) (s : Sub H A) → HasRoom s
    → IsSomeAnd (begin m kind s) HasRoom
begins laws m kind s room =
    inline_taken laws m (m.mark_text s.held kind) (pushed (m.mark_tag s.held kind) s) room

finishes : {H A : Type 0} (laws : RoomLaws (List A)) (m : Marking H A) (kind : Mark) (s : Sub H A) → HasRoom s
    → IsSomeAnd (finish m kind s) HasRoom
finishes laws m kind s room =
    given_mapped HasRoom HasRoom popped (add_inline m (m.mark_text s.held kind) s) (λ x inside. inside)
    (inline_taken laws m (m.mark_text s.held kind) s room)

begins_link : {H A : Type 0} (laws : RoomLaws (List A)) (m : Marking H A) (kind : Mark) (s : Sub H A) → HasRoom s
    → IsSomeAnd (begin_link m kind s) HasRoom
begins_link laws m kind s room =
    inline_taken laws m (m.mark_text s.held kind)
    (pushed (m.mark_tag s.held kind) (with_held (m.after s.held kind) s)) room

finishes_link : {H A : Type 0} (laws : RoomLaws (List A)) (m : Marking H A) (kind : Mark) (s : Sub H A) → HasRoom s
    → IsSomeAnd (finish_link m kind s) HasRoom
finishes_link laws m kind s room =
    given_mapped HasRoom HasRoom popped
    (add_inline m (m.mark_text s.held kind) (with_held (m.after s.held kind) s)) (λ x inside. inside)
    (inline_taken laws m (m.mark_text s.held kind) (with_held (m.after s.held kind) s) room)

begins_strikeout : {H A : Type 0} (laws : RoomLaws (List A)) (m : Marking H A) (s : Sub H A) → HasRoom s
    → IsSomeAnd (begin_strikeout m s) HasRoom
begins_strikeout laws m s room =
    given_mapped HasRoom HasRoom struck_more (begin m strikeout_start s) (λ x inside. inside)
    (begins laws m strikeout_start s room)

adds_titled : {H A : Type 0} (laws : RoomLaws (List A)) (m : Marking H A) (source : List ℕ) (title : Option (List ℕ))
    (s : Sub H A) → HasRoom s → IsSomeAnd (add_titled m source title s) HasRoom
adds_titled laws m source None s room = room
adds_titled laws m source (Some title) s room =
    given_mapped HasRoom HasRoom popped (begin_link m (image source title) s) (λ x inside. inside)
    (begins_link laws m (image source title) s room)

begins_colour : {H A : Type 0} (m : Marking H A) (kind : Mark) (s : Sub H A) → HasRoom s
    → HasRoom (begin_colour m kind s)
begins_colour m kind s room = by_tag (m.has_tag s.held kind)
  where
    by_tag : (t : Bool) → HasRoom (if t then pushed (m.mark_tag s.held kind) (with_held (m.after s.held kind) s)
        else with_held (m.after s.held kind) s)
    by_tag true = room
    by_tag false = room

finishes_colour : {H A : Type 0} (m : Marking H A) (kind : Mark) (s : Sub H A) → HasRoom s
    → HasRoom (finish_colour m kind s)
finishes_colour m kind s room = by_tag (m.ends_tag s.held kind)
  where
    by_tag : (t : Bool) → HasRoom (if t then popped (with_held (m.after s.held kind) s)
        else with_held (m.after s.held kind) s)
    by_tag true = room
    by_tag false = room

-- ---- other blocks

flushes_sub : {H A : Type 0} (laws : RoomLaws (List A)) (s : Sub H A) → HasRoom s
    → IsSomeAnd (flush_sub s) HasRoom
flushes_sub laws s room =
    laid_on s (flush (measure_of s) s.annotations s.laid) (laws.flushes (measure_of s) s.annotations s.laid room)

appends : {H A : Type 0} (laws : RoomLaws (List A)) (other : Sub H A) (first following : List ℕ) (s : Sub H A)
    → HasRoom other → HasRoom s → IsSomeAnd (append_sub other first following s) HasRoom
appends laws other first following s taken room =
    given_mapped HasRoom HasRoom (with_block s first following) (flush_sub other)
    (λ x inside. laws.takes_block (measure_of x) (measure_of s) s.annotations first following x.laid.lines s.laid room)
    (flushes_sub laws other taken)

adds_sub : {H A : Type 0} (laws : RoomLaws (List A)) (other : Sub H A) (first following : List ℕ) (s : Sub H A)
    → HasRoom other → HasRoom s → IsSomeAnd (add_sub other first following s) HasRoom
adds_sub laws other first following s taken room =
    given_chained HasRoom HasRoom (append_sub other first following) (flush_sub s)
    (λ x inside. appends laws other first following x taken inside) (flushes_sub laws s room)

cells_given : {H A : Type 0} (laws : RoomLaws (List A)) (cells : List (Sub H A × ℕ)) → All (λ c. HasRoom c.0) cells
    → IsSomeAnd (cells_of_subs cells) (λ _. Unit)
cells_given laws [] all = tt
cells_given {H} {A} laws (c ∷ cells) all =
    given_chained HasRoom (λ _. Unit) (before_cells c.1 (cells_of_subs cells)) (flush_sub c.0)
    (λ x inside. given_mapped (λ _. Unit) (λ _. Unit) (λ (cs : List (Cell (List A))). cell_of_sub c.1 x ∷ cs)
    (cells_of_subs cells) (λ cs _. tt)
    (cells_given laws cells (All-tail (λ (c : Sub H A × ℕ). HasRoom c.0) c cells all)))
    (flushes_sub laws c.0 (All-head (λ (c : Sub H A × ℕ). HasRoom c.0) c cells all))

takes_cells : {H A : Type 0} (laws : RoomLaws (List A)) (cells : List (Sub H A × ℕ)) (collapse : Bool) (s : Sub H A)
    → All (λ c. HasRoom c.0) cells → HasRoom s → IsSomeAnd (add_cells cells collapse s) HasRoom
takes_cells laws cells collapse s all room =
    given_chained (λ _. Unit) HasRoom (with_cells collapse s) (cells_of_subs cells)
    (λ row _. laid_on s (add_row (measure_of s) s.annotations s.options.draw_borders collapse row s.laid)
    (laws.takes_row (measure_of s) s.annotations s.options.draw_borders collapse row s.laid room))
    (cells_given laws cells all)

slashes : {H A : Type 0} (laws : RoomLaws (List A)) (s : Sub H A) → HasRoom s → HasRoom (slashed s)
slashes laws s room = by_borders s.options.draw_borders
  where
    by_borders : (t : Bool) → HasRoom (if t then with_laid s (add_slashes s.width s.annotations s.laid) else s)
    by_borders true = laws.takes_slashes (measure_of s) s.annotations s.width s.laid room
    by_borders false = room

rules : {H A : Type 0} (laws : RoomLaws (List A)) (s : Sub H A) → HasRoom s → HasRoom (ruled s)
rules laws s room = by_borders s.options.draw_borders
  where
    by_borders : (t : Bool) → HasRoom (if t then with_laid s
        (add_border (plain horizontal s.width s.annotations) s.laid) else s)
    by_borders true = laws.takes_border (measure_of s) (plain horizontal s.width s.annotations) s.laid room
    by_borders false = room

adds_below : {H A : Type 0} (laws : RoomLaws (List A)) (cells : List (Sub H A)) (s : Sub H A) → All HasRoom cells
    → HasRoom s → IsSomeAnd (add_below cells s) HasRoom
adds_below laws [] s all room = room
adds_below laws (c ∷ cells) s all room =
    given_chained HasRoom HasRoom (add_below cells) (append_sub c [] [] (slashed s))
    (λ x inside. adds_below laws cells x (All-tail HasRoom c cells all) inside)
    (appends laws c [] [] (slashed s) (All-head HasRoom c cells all) (slashes laws s room))

adds_first : {H A : Type 0} (laws : RoomLaws (List A)) (cells : List (Sub H A)) (s : Sub H A) → All HasRoom cells
    → HasRoom s → IsSomeAnd (add_first cells s) HasRoom
adds_first laws [] s all room = room
adds_first laws (c ∷ cells) s all room =
    given_chained HasRoom HasRoom (add_below cells) (append_sub c [] [] s)
    (λ x inside. adds_below laws cells x (All-tail HasRoom c cells all) inside)
    (appends laws c [] [] s (All-head HasRoom c cells all) room)

adds_rows : {H A : Type 0} (laws : RoomLaws (List A)) (cells : List (Sub H A)) (s : Sub H A) → All HasRoom cells
    → HasRoom s → IsSomeAnd (add_rows_below cells s) HasRoom
adds_rows laws cells s all room =
    given_mapped HasRoom HasRoom ruled (option_and_then (add_first cells) (flush_sub s))
    (λ x inside. rules laws x inside)
    (given_chained HasRoom HasRoom (add_first cells) (flush_sub s) (λ x inside. adds_first laws cells x all inside)
    (flushes_sub laws s room))

-- ---- lines after the page

takes_notes : {H A : Type 0} (laws : RoomLaws (List A)) (lines : List (List (Item A))) (s : Sub H A)
    (b : Laid (List A)) → AllowsOverflow (measure_of s) b
    → AllowsOverflow (measure_of s) (fold (add_footnote s) b lines)
takes_notes laws [] s b room = room
takes_notes laws (line ∷ lines) s b room =
    takes_notes laws lines s (add_footnote s b line)
    (laws.takes_lines (measure_of s) s.annotations s.annotations
    (footnote_lines s.options.wrap_links s.width line) b room)

pub adds_notes : {H A : Type 0} (laws : RoomLaws (List A)) (lines : List (List (Item A))) (s : Sub H A) → HasRoom s
    → IsSomeAnd (add_footnotes lines s) HasRoom
adds_notes laws lines s room =
    laid_on s (option_map (λ b. fold (add_footnote s) b lines) (flush (measure_of s) s.annotations s.laid))
    (given_mapped (AllowsOverflow (measure_of s)) (AllowsOverflow (measure_of s)) (λ b. fold (add_footnote s) b lines)
    (flush (measure_of s) s.annotations s.laid) (λ b inside. takes_notes laws lines s b inside)
    (laws.flushes (measure_of s) s.annotations s.laid room))

-- ---- calls

pub step_given : {H A : Type 0} (laws : RoomLaws (List A)) (m : Marking H A) (c : Call (Sub H A)) (s : Sub H A)
    → HasRoom s → CallHasRoom c → IsSomeAnd (step m c s) HasRoom
step_given laws m adds_empty_line s room taken =
    laid_on s (add_empty_line (measure_of s) s.annotations s.laid)
    (laws.adds_line (measure_of s) s.annotations s.laid room)
step_given laws m starts_block s room taken =
    laid_on s (start_block (measure_of s) s.annotations s.laid)
    (laws.begins_block (measure_of s) s.annotations s.laid room)
step_given laws m starts_table s room taken =
    laid_on s (start_table (measure_of s) s.annotations s.laid)
    (laws.begins_table (measure_of s) s.annotations s.laid room)
step_given laws m ends_block s room taken = laws.finishes_block (measure_of s) s.laid room
step_given laws m ends_line s room taken = flushes_sub laws s room
step_given laws m breaks_line s room taken =
    laid_on s (break_line (measure_of s) s.annotations s.laid)
    (laws.line_breaks (measure_of s) s.annotations s.laid room)
step_given laws m adds_border s room taken =
    laid_on s (add_horizontal_border (measure_of s) s.annotations s.width s.laid)
    (laws.draws_border (measure_of s) s.annotations s.width s.laid room)
step_given laws m (adds_border_of width) s room taken =
    laid_on s (add_horizontal_border (measure_of s) s.annotations width s.laid)
    (laws.draws_border (measure_of s) s.annotations width s.laid room)
step_given laws m starts_preformat s room taken = room
step_given laws m ends_preformat s room taken = room
step_given laws m (starts_mode mode) s room taken = room
step_given laws m ends_mode s room taken = room
step_given laws m (adds_text cs) s room taken = inline_taken laws m cs s room
step_given laws m (starts_link kind) s room taken = begins_link laws m kind s room
step_given laws m ends_link s room taken = finishes_link laws m link_end s room
step_given laws m starts_strikeout s room taken = begins_strikeout laws m s room
step_given laws m ends_strikeout s room taken = finishes laws m strikeout_end (struck_less s) room
step_given laws m (starts_mark kind) s room taken = begins laws m kind s room
step_given laws m (ends_mark kind) s room taken = finishes laws m kind s room
step_given laws m (adds_image source title) s room taken =
    adds_titled laws m source (image_title s.options.img_mode source title) s room
step_given laws m (starts_fragment name) s room taken =
    laws.marks (measure_of s) s.annotations name s.laid room
step_given laws m (starts_colour kind) s room taken = begins_colour m kind s room
step_given laws m (ends_colour kind) s room taken = finishes_colour m kind s room
step_given laws m (adds_block other first following) s room taken = adds_sub laws other first following s taken room
step_given laws m (adds_cells cells collapse) s room taken = takes_cells laws cells collapse s taken room
step_given laws m (adds_rows_below cells) s room taken = adds_rows laws cells s taken room

pub all_given : {H A : Type 0} (laws : RoomLaws (List A)) (m : Marking H A) (calls : List (Call (Sub H A)))
    (s : Sub H A) → HasRoom s → All CallHasRoom calls → IsSomeAnd (after m calls s) HasRoom
all_given laws m [] s room all = room
all_given laws m (c ∷ calls) s room all =
    given_chained HasRoom HasRoom (after m calls) (step m c s)
    (λ x inside. all_given laws m calls x inside (All-tail CallHasRoom c calls all))
    (step_given laws m c s room (All-head CallHasRoom c calls all))
