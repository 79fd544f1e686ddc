-- A renderer that keeps no annotations has the same text: each call makes the same of it, but for the annotations.
use Rattle.std.proofs.Common.{◌≡◌, ℕ, Bool, List, [], ◌∷◌, ◌++◌, map, ap, ◌∙◌, refl}
use Rattle.std.specs.Prelude.{nat_lt, Option, None, Some}
use Rattle.std.specs.Option.{option_map, option_and_then}
use Rattle.text_decorators.specs.Marks.{Mark, image, link_end, preformat_first, preformat_further, strikeout_end}
use Rattle.text_decorators.specs.Marks.{strikeout_start}
use Rattle.text_lines.specs.Tagged.{characters}
use Rattle.text_pieces.proofs.RetaggedItems.{chosen_by, characters_retagged}
use Rattle.text_wrapping.proofs.BlockRetagged.{then_mapped, map_mapped}
use Rattle.text_borders.specs.Borders.{plain, horizontal}
use Rattle.text_borders.specs.Lines.{BlockLine, line_shown}
use Rattle.text_borders.specs.Across.{Cell}
use Rattle.text_borders.specs.Retagged.{reline, recell}
use Rattle.text_borders.proofs.RowRetagged.{line_shown_retagged}
use Rattle.block_layout.specs.Laid.{Laid, add_border, add_empty_line, add_horizontal_border, add_text, break_line}
use Rattle.block_layout.specs.Laid.{flush, is_ignored, start_awaited, start_block, start_table}
use Rattle.block_layout.specs.LaidRows.{add_row, add_slashes}
use Rattle.block_layout.specs.Retagged.{relaid}
use Rattle.block_layout_laws.proofs.LaidRetagged.{add_block_retagged, add_border_retagged, add_row_retagged}
use Rattle.block_layout_laws.proofs.LaidRetagged.{add_text_retagged, break_line_retagged, empty_line_retagged}
use Rattle.block_layout_laws.proofs.LaidRetagged.{finished_lines_retagged, flush_retagged, horizontal_retagged}
use Rattle.block_layout_laws.proofs.LaidRetagged.{mark_retagged, slashes_retagged, start_awaited_retagged}
use Rattle.block_layout_laws.proofs.LaidRetagged.{start_block_retagged, start_table_retagged}
use Rattle.block_trait.specs.Renderers.{Marking, Sub, add_below, add_cells, add_first, add_inline, add_rows_below}
use Rattle.block_trait.specs.Renderers.{add_sub, add_titled, append_sub, before_cells, begin, begin_colour, begin_link}
use Rattle.block_trait.specs.Renderers.{begin_strikeout, cell_of_sub, cells_of_subs, finish, finish_colour, finish_link}
use Rattle.block_trait.specs.Renderers.{flush_sub, image_title, lines_of_sub, measure_of, mode_of, on_laid, one_under}
use Rattle.block_trait.specs.Renderers.{popped, preformatted_added, pushed, ruled, slashed, struck_less, struck_more}
use Rattle.block_trait.specs.Renderers.{struck_text, tagged_added, text_added, with_block, with_block_started}
use Rattle.block_trait.specs.Renderers.{with_border_of, with_cells, with_held, with_laid}
use Rattle.block_trait.specs.Texts.{line_text, text_of_lines}
use Rattle.block_trait.specs.Calls.{Call, adds_block, adds_border, adds_border_of, adds_cells, adds_empty_line}
use Rattle.block_trait.specs.Calls.{adds_image, adds_rows_below, adds_text, breaks_line, call_of, ends_block}
use Rattle.block_trait.specs.Calls.{ends_colour, ends_line, ends_link, ends_mark, ends_mode, ends_preformat}
use Rattle.block_trait.specs.Calls.{ends_strikeout, starts_block, starts_colour, starts_fragment, starts_link}
use Rattle.block_trait.specs.Calls.{starts_mark, starts_mode, starts_preformat, starts_strikeout, starts_table, step}
use Rattle.block_trait.specs.Bare.{no_tag, bare_of}

-- what is done to the lines alone
on_bare : {H A : Type 0} (s : Sub H A) (o p : Option (Laid (List A))) → p ≡ option_map (relaid no_tag) o
    → on_laid (bare_of s) p ≡ option_map bare_of (on_laid s o)
on_bare s o p same =
    ap (option_map (with_laid (bare_of s))) same
    ∙ map_mapped (with_laid s) (with_laid (bare_of s)) (relaid no_tag) bare_of (λ x. refl) o

-- ---- text

tagged_bare : {H A : Type 0} (m : Marking H A) (cs : List ℕ) (s : Sub H A) (x : Laid (List A))
    → tagged_added m cs (bare_of s) (relaid no_tag x) ≡ option_map (relaid no_tag) (tagged_added m cs s x)
tagged_bare m cs s x =
    chosen_by (option_map (relaid no_tag)) (nat_lt 0 s.preformats) (nat_lt 0 s.preformats)
    (preformatted_added m cs s x)
    (add_text (measure_of s) s.annotations (mode_of s) cs s.annotations s.annotations x)
    (preformatted_added m cs (bare_of s) (relaid no_tag x))
    (add_text (measure_of s) [] (mode_of s) cs [] [] (relaid no_tag x)) refl
    (add_text_retagged no_tag (measure_of s) s.annotations (mode_of s) cs
    (one_under (m.mark_tag s.held preformat_first) s) (one_under (m.mark_tag s.held preformat_further) s) x)
    (add_text_retagged no_tag (measure_of s) s.annotations (mode_of s) cs s.annotations s.annotations x)

pub inline_bare : {H A : Type 0} (m : Marking H A) (cs : List ℕ) (s : Sub H A) → add_inline m cs (bare_of s)
    ≡ option_map bare_of (add_inline m cs s)
inline_bare m cs s =
    let awaited = start_awaited (measure_of s) s.annotations s.laid in
    let laid = option_and_then (text_added m cs s) awaited in
    let bare_laid =
    option_and_then (text_added m cs (bare_of s)) (start_awaited (measure_of s) [] (relaid no_tag s.laid)) in
    chosen_by (option_map bare_of) (is_ignored (mode_of s) cs s.laid) (is_ignored (mode_of s) cs s.laid) (Some s)
    (on_laid s laid) (Some (bare_of s)) (on_laid (bare_of s) bare_laid) refl refl
    (on_bare s laid bare_laid
    (ap (option_and_then (text_added m cs (bare_of s)))
    (start_awaited_retagged no_tag (measure_of s) s.annotations s.laid)
    ∙ then_mapped (text_added m cs s) (text_added m cs (bare_of s)) (relaid no_tag) (relaid no_tag)
    (tagged_bare m (struck_text s cs) s) awaited))

-- ---- marks

popped_bare : {H A : Type 0} (o p : Option (Sub H A)) → p ≡ option_map bare_of o
    → option_map popped p ≡ option_map bare_of (option_map popped o)
popped_bare o p same =
    ap (option_map popped) same ∙ map_mapped (λ s. popped s) (λ s. popped s) bare_of bare_of (λ s. refl) o

begin_bare : {H A : Type 0} (m : Marking H A) (kind : Mark) (s : Sub H A) → begin m kind (bare_of s)
    ≡ option_map bare_of (begin m kind s)
begin_bare m kind s = inline_bare m (m.mark_text s.held kind) (pushed (m.mark_tag s.held kind) s)

finish_bare : {H A : Type 0} (m : Marking H A) (kind : Mark) (s : Sub H A) → finish m kind (bare_of s)
    ≡ option_map bare_of (finish m kind s)
finish_bare m kind s =
    popped_bare (add_inline m (m.mark_text s.held kind) s) (add_inline m (m.mark_text s.held kind) (bare_of s))
    (inline_bare m (m.mark_text s.held kind) s)

begin_link_bare : {H A : Type 0} (m : Marking H A) (kind : Mark) (s : Sub H A) → begin_link m kind (bare_of s)
    ≡ option_map bare_of (begin_link m kind s)
begin_link_bare m kind s =
    inline_bare m (m.mark_text s.held kind) (pushed (m.mark_tag s.held kind) (with_held (m.after s.held kind) s))

finish_link_bare : {H A : Type 0} (m : Marking H A) (kind : Mark) (s : Sub H A) → finish_link m kind (bare_of s)
    ≡ option_map bare_of (finish_link m kind s)
finish_link_bare m kind s =
    let trailing = with_held (m.after s.held kind) s in
    popped_bare (add_inline m (m.mark_text s.held kind) trailing)
    (add_inline m (m.mark_text s.held kind) (bare_of trailing))
    (inline_bare m (m.mark_text s.held kind) trailing)

strikeout_bare : {H A : Type 0} (m : Marking H A) (s : Sub H A) → begin_strikeout m (bare_of s)
    ≡ option_map bare_of (begin_strikeout m s)
strikeout_bare m s =
    ap (option_map struck_more) (begin_bare m strikeout_start s)
    ∙ map_mapped (λ x. struck_more x) (λ x. struck_more x) bare_of bare_of (λ x. refl) (begin m strikeout_start s)

titled_bare : {H A : Type 0} (m : Marking H A) (source : List ℕ) (title : Option (List ℕ)) (s : Sub H A)
    → add_titled m source title (bare_of s) ≡ option_map bare_of (add_titled m source title s)
titled_bare m source None s = refl
titled_bare m source (Some title) s =
    popped_bare (begin_link m (image source title) s) (begin_link m (image source title) (bare_of s))
    (begin_link_bare m (image source title) s)

begin_colour_bare : {H A : Type 0} (m : Marking H A) (kind : Mark) (s : Sub H A) → begin_colour m kind (bare_of s)
    ≡ bare_of (begin_colour m kind s)
begin_colour_bare m kind s =
    let trailing = with_held (m.after s.held kind) s in
    chosen_by bare_of (m.has_tag s.held kind) (m.has_tag s.held kind) (pushed (m.mark_tag s.held kind) trailing)
    trailing
    (pushed (m.mark_tag s.held kind) (bare_of trailing)) (bare_of trailing) refl refl refl

finish_colour_bare : {H A : Type 0} (m : Marking H A) (kind : Mark) (s : Sub H A) → finish_colour m kind (bare_of s)
    ≡ bare_of (finish_colour m kind s)
finish_colour_bare m kind s =
    let trailing = with_held (m.after s.held kind) s in
    chosen_by bare_of (m.ends_tag s.held kind) (m.ends_tag s.held kind) (popped trailing) trailing
    (popped (bare_of trailing))
    (bare_of trailing) refl refl refl

-- ---- other blocks

pub flush_bare : {H A : Type 0} (s : Sub H A) → flush_sub (bare_of s) ≡ option_map bare_of (flush_sub s)
flush_bare s = on_bare s (flush (measure_of s) s.annotations s.laid)
    (flush (measure_of s) [] (relaid no_tag s.laid)) (flush_retagged no_tag (measure_of s) s.annotations s.laid)

block_bare : {H A : Type 0} (s : Sub H A) (first following : List ℕ) (other : Sub H A)
    → with_block (bare_of s) first following (bare_of other) ≡ bare_of (with_block s first following other)
block_bare s first following other =
    ap (with_laid (bare_of s)) (add_block_retagged no_tag (measure_of other) (measure_of s) s.annotations first
    following other.laid.lines s.laid)

append_bare : {H A : Type 0} (other : Sub H A) (first following : List ℕ) (s : Sub H A)
    → append_sub (bare_of other) first following (bare_of s)
    ≡ option_map bare_of (append_sub other first following s)
append_bare other first following s =
    ap (option_map (with_block (bare_of s) first following)) (flush_bare other)
    ∙ map_mapped (with_block s first following) (with_block (bare_of s) first following) bare_of bare_of
    (block_bare s first following) (flush_sub other)

add_bare : {H A : Type 0} (other : Sub H A) (first following : List ℕ) (s : Sub H A)
    → add_sub (bare_of other) first following (bare_of s) ≡ option_map bare_of (add_sub other first following s)
add_bare other first following s =
    ap (option_and_then (append_sub (bare_of other) first following)) (flush_bare s)
    ∙ then_mapped (append_sub other first following) (append_sub (bare_of other) first following) bare_of bare_of
    (append_bare other first following) (flush_sub s)

abbrev bares : {H A : Type 0} → List (Sub H A × ℕ) → List (Sub H A × ℕ)
bares cells = map (λ c. (bare_of c.0, c.1)) cells

before_bare : {H A : Type 0} (rows : ℕ) (cells : Option (List (Cell (List A)))) (s : Sub H A)
    → before_cells rows (option_map (map (recell no_tag)) cells) (bare_of s)
    ≡ option_map (map (recell no_tag)) (before_cells rows cells s)
before_bare rows cells s =
    map_mapped (λ cs. cell_of_sub rows s ∷ cs) (λ cs. cell_of_sub rows (bare_of s) ∷ cs) (map (recell no_tag))
    (map (recell no_tag)) (λ cs. refl) cells

cells_bare : {H A : Type 0} (cells : List (Sub H A × ℕ)) → cells_of_subs (bares cells)
    ≡ option_map (map (recell no_tag)) (cells_of_subs cells)
cells_bare [] = refl
cells_bare (c ∷ cells) =
    ap (λ rest. option_and_then (before_cells c.1 rest) (flush_sub (bare_of c.0))) (cells_bare cells)
    ∙ ap (option_and_then (before_cells c.1 (option_map (map (recell no_tag)) (cells_of_subs cells))))
    (flush_bare c.0)
    ∙ then_mapped (before_cells c.1 (cells_of_subs cells))
    (before_cells c.1 (option_map (map (recell no_tag)) (cells_of_subs cells))) bare_of (map (recell no_tag))
    (before_bare c.1 (cells_of_subs cells)) (flush_sub c.0)

with_cells_bare : {H A : Type 0} (collapse : Bool) (s : Sub H A) (cells : List (Cell (List A)))
    → with_cells collapse (bare_of s) (map (recell no_tag) cells) ≡ option_map bare_of (with_cells collapse s cells)
with_cells_bare collapse s cells =
    on_bare s (add_row (measure_of s) s.annotations s.options.draw_borders collapse cells s.laid)
    (add_row (measure_of s) [] s.options.draw_borders collapse (map (recell no_tag) cells) (relaid no_tag s.laid))
    (add_row_retagged no_tag (measure_of s) s.annotations s.options.draw_borders collapse cells s.laid)

add_cells_bare : {H A : Type 0} (cells : List (Sub H A × ℕ)) (collapse : Bool) (s : Sub H A)
    → add_cells (bares cells) collapse (bare_of s) ≡ option_map bare_of (add_cells cells collapse s)
add_cells_bare cells collapse s =
    ap (option_and_then (with_cells collapse (bare_of s))) (cells_bare cells)
    ∙ then_mapped (with_cells collapse s) (with_cells collapse (bare_of s)) (map (recell no_tag)) bare_of
    (with_cells_bare collapse s) (cells_of_subs cells)

slashed_bare : {H A : Type 0} (s : Sub H A) → slashed (bare_of s) ≡ bare_of (slashed s)
slashed_bare s =
    chosen_by bare_of s.options.draw_borders s.options.draw_borders
    (with_laid s (add_slashes s.width s.annotations s.laid)) s
    (with_laid (bare_of s) (add_slashes s.width [] (relaid no_tag s.laid))) (bare_of s) refl
    (ap (with_laid (bare_of s)) (slashes_retagged no_tag s.width s.annotations s.laid)) refl

ruled_bare : {H A : Type 0} (s : Sub H A) → ruled (bare_of s) ≡ bare_of (ruled s)
ruled_bare s =
    chosen_by bare_of s.options.draw_borders s.options.draw_borders
    (with_laid s (add_border (plain horizontal s.width s.annotations) s.laid)) s
    (with_laid (bare_of s) (add_border (plain horizontal s.width []) (relaid no_tag s.laid))) (bare_of s) refl
    (ap (with_laid (bare_of s)) (add_border_retagged no_tag (plain horizontal s.width s.annotations) s.laid)) refl

below_bare : {H A : Type 0} (cells : List (Sub H A)) (s : Sub H A) → add_below (map bare_of cells) (bare_of s)
    ≡ option_map bare_of (add_below cells s)
below_bare [] s = refl
below_bare (c ∷ cells) s =
    ap (λ b. option_and_then (add_below (map bare_of cells)) (append_sub (bare_of c) [] [] b)) (slashed_bare s)
    ∙ ap (option_and_then (add_below (map bare_of cells))) (append_bare c [] [] (slashed s))
    ∙ then_mapped (add_below cells) (add_below (map bare_of cells)) bare_of bare_of (below_bare cells)
    (append_sub c [] [] (slashed s))

first_bare : {H A : Type 0} (cells : List (Sub H A)) (s : Sub H A) → add_first (map bare_of cells) (bare_of s)
    ≡ option_map bare_of (add_first cells s)
first_bare [] s = refl
first_bare (c ∷ cells) s =
    ap (option_and_then (add_below (map bare_of cells))) (append_bare c [] [] s)
    ∙ then_mapped (add_below cells) (add_below (map bare_of cells)) bare_of bare_of (below_bare cells)
    (append_sub c [] [] s)

rows_below_bare : {H A : Type 0} (cells : List (Sub H A)) (s : Sub H A)
    → add_rows_below (map bare_of cells) (bare_of s) ≡ option_map bare_of (add_rows_below cells s)
rows_below_bare cells s =
    ap (λ o. option_map (λ b. ruled b) (option_and_then (add_first (map bare_of cells)) o)) (flush_bare s)
    ∙ ap (option_map (λ b. ruled b)) (then_mapped (add_first cells) (add_first (map bare_of cells)) bare_of bare_of
    (first_bare cells) (flush_sub s))
    ∙ map_mapped (λ x. ruled x) (λ b. ruled b) bare_of bare_of ruled_bare
    (option_and_then (add_first cells) (flush_sub s))

pub block_started_bare : {H A : Type 0} (s : Sub H A) → with_block_started (bare_of s)
    ≡ option_map bare_of (with_block_started s)
block_started_bare s = on_bare s (start_block (measure_of s) s.annotations s.laid)
    (start_block (measure_of s) [] (relaid no_tag s.laid))
    (start_block_retagged no_tag (measure_of s) s.annotations s.laid)

border_bare : {H A : Type 0} (width : ℕ) (s : Sub H A) → with_border_of width (bare_of s)
    ≡ option_map bare_of (with_border_of width s)
border_bare width s = on_bare s (add_horizontal_border (measure_of s) s.annotations width s.laid)
    (add_horizontal_border (measure_of s) [] width (relaid no_tag s.laid))
    (horizontal_retagged no_tag (measure_of s) s.annotations width s.laid)

-- ---- calls

pub step_bare : {H A : Type 0} (m : Marking H A) (c : Call (Sub H A)) (s : Sub H A)
    → step m (call_of bare_of c) (bare_of s) ≡ option_map bare_of (step m c s)
step_bare m adds_empty_line s = on_bare s (add_empty_line (measure_of s) s.annotations s.laid)
    (add_empty_line (measure_of s) [] (relaid no_tag s.laid))
    (empty_line_retagged no_tag (measure_of s) s.annotations s.laid)
step_bare m starts_block s = block_started_bare s
step_bare m starts_table s = on_bare s (start_table (measure_of s) s.annotations s.laid)
    (start_table (measure_of s) [] (relaid no_tag s.laid))
    (start_table_retagged no_tag (measure_of s) s.annotations s.laid)
step_bare m ends_block s = refl
step_bare m ends_line s = flush_bare s
step_bare m breaks_line s = on_bare s (break_line (measure_of s) s.annotations s.laid)
    (break_line (measure_of s) [] (relaid no_tag s.laid))
    (break_line_retagged no_tag (measure_of s) s.annotations s.laid)
step_bare m adds_border s = border_bare s.width s
step_bare m (adds_border_of width) s = border_bare width s
step_bare m starts_preformat s = refl
step_bare m ends_preformat s = refl
step_bare m (starts_mode mode) s = refl
step_bare m ends_mode s = refl
step_bare m (adds_text cs) s = inline_bare m cs s
step_bare m (starts_link kind) s = begin_link_bare m kind s
step_bare m ends_link s = finish_link_bare m link_end s
step_bare m starts_strikeout s = strikeout_bare m s
step_bare m ends_strikeout s = finish_bare m strikeout_end (struck_less s)
step_bare m (starts_mark kind) s = begin_bare m kind s
step_bare m (ends_mark kind) s = finish_bare m kind s
step_bare m (adds_image source title) s = titled_bare m source (image_title s.options.img_mode source title) s
step_bare m (starts_fragment name) s =
    ap (λ laid. Some (with_laid (bare_of s) laid)) (mark_retagged no_tag (measure_of s) s.annotations name s.laid)
step_bare m (starts_colour kind) s = ap Some (begin_colour_bare m kind s)
step_bare m (ends_colour kind) s = ap Some (finish_colour_bare m kind s)
step_bare m (adds_block other first following) s = add_bare other first following s
step_bare m (adds_cells cells collapse) s = add_cells_bare cells collapse s
step_bare m (adds_rows_below cells) s = rows_below_bare cells s

-- ---- what comes of it

pub lines_bare : {H A : Type 0} (s : Sub H A) → lines_of_sub (bare_of s)
    ≡ option_map (map (reline no_tag)) (lines_of_sub s)
lines_bare s = finished_lines_retagged no_tag (measure_of s) s.annotations s.laid

line_text_retagged : {A B : Type 0} (f : A → B) (line : BlockLine A) → line_text (reline f line) ≡ line_text line
line_text_retagged f line =
    ap (λ items. characters items ++ 0xA ∷ []) (line_shown_retagged f line)
    ∙ ap (λ cs. cs ++ 0xA ∷ []) (characters_retagged f (line_shown line))

text_same : {A B : Type 0} (f : A → B) (lines : List (BlockLine A)) → text_of_lines (map (reline f) lines)
    ≡ text_of_lines lines
text_same f [] = refl
text_same f (line ∷ lines) =
    ap (λ cs. cs ++ text_of_lines (map (reline f) lines)) (line_text_retagged f line)
    ∙ ap (λ cs. line_text line ++ cs) (text_same f lines)

text_of_option : {A B : Type 0} (f : A → B) (lines : Option (List (BlockLine A)))
    → option_map text_of_lines (option_map (map (reline f)) lines) ≡ option_map text_of_lines lines
text_of_option f None = refl
text_of_option f (Some lines) = ap Some (text_same f lines)

pub text_bare : {H A : Type 0} (s : Sub H A) → option_map text_of_lines (lines_of_sub (bare_of s))
    ≡ option_map text_of_lines (lines_of_sub s)
text_bare s = ap (option_map text_of_lines) (lines_bare s) ∙ text_of_option no_tag (lines_of_sub s)
