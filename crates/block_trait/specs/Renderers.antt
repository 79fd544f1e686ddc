-- A renderer of a block: what it holds, and what each call makes of it. Where a call gives no renderer, a character
-- is wider than the lines at which its text wraps.
use Rattle.std.specs.Prelude.{◌+◌, ◌-◌, ◌==◌, [], ◌∷◌, ◌++◌, if◌then◌else◌, Bool, List, None, Option, Some, chars}
use Rattle.std.specs.Prelude.{flat_map, fold, max, min, nat_le, nat_lt, replicate, true, unwrap_or, ℕ}
use Rattle.std.specs.Option.{option_map, option_and_then}
use Rattle.text_lines.specs.Columns.{width_of}
use Rattle.text_decorators.specs.Marks.{Mark, strikeout_start, strikeout_end, preformat_first, preformat_further, image}
use Rattle.text_pieces.specs.declared.white_space.WhiteSpace.{WhiteSpace}
use Rattle.text_pieces.specs.declared.white_space.WhiteSpace.TheVariants.{Normal}
use Rattle.text_borders.specs.Borders.{plain, horizontal}
use Rattle.text_borders.specs.Lines.{BlockLine}
use Rattle.text_borders.specs.Across.{Cell}
use Rattle.block_layout.specs.declared.measure.Measure.{Measure}
use Rattle.block_layout.specs.Laid.{Laid, add_block, add_border, add_empty_line, add_horizontal_border, add_text}
use Rattle.block_layout.specs.Laid.{break_line, end_block, finished_lines, flush, is_ignored, mark, nothing_laid}
use Rattle.block_layout.specs.Laid.{start_awaited, start_block, start_table}
use Rattle.block_layout.specs.LaidRows.{add_row, add_slashes, before_last}
use Rattle.block_trait.specs.declared.options.RenderOptions.{RenderOptions}
use Rattle.block_trait.specs.declared.options.ImageRenderMode.{ImageRenderMode}
use Rattle.block_trait.specs.declared.options.ImageRenderMode.TheVariants.{Filename, IgnoreEmpty, Replace, ShowAlways}

-- How a decorator marks text: the texts of its marks and what contracts see of their annotations; whether a colour has
-- one; what it holds after a mark; whether a colour's annotation ends with it; what one made for a part of the block
-- holds.
pub record Marking (H A : Type 0) : Type 0 where
  pub mark_text : H → Mark → List ℕ
  pub mark_tag : H → Mark → A
  pub has_tag : H → Mark → Bool
  pub after : H → Mark → H
  pub ends_tag : H → Mark → Bool
  pub sub : H → H

-- The columns and the options; what the decorator holds; the lines and the text that runs; the modes of white space,
-- the last of which counts; how many parts around are preformatted; the annotations that stand, and whether any are
-- kept; the strikeouts that have begun.
pub record Sub (H A : Type 0) : Type 0 where
  pub width : ℕ
  pub options : RenderOptions
  pub held : H
  pub laid : Laid (List A)
  pub modes : List WhiteSpace
  pub preformats : ℕ
  pub annotations : List A
  pub keeps : Bool
  pub strikeouts : ℕ

abbrev pub new_sub : {H A : Type 0} → ℕ → RenderOptions → H → List A → Sub H A
new_sub width options held annotations = record {
  width = width;
  options = options;
  held = held;
  laid = nothing_laid;
  modes = [];
  preformats = 0;
  annotations = annotations;
  keeps = true;
  strikeouts = 0;
}

-- a renderer for a part of the block: it keeps annotations where that of the block does
abbrev pub new_part : {H A : Type 0} → (sub : H → H) → ℕ → Sub H A → Sub H A
new_part sub width s = record (new_sub width s.options (sub s.held) s.annotations) { keeps = s.keeps }

abbrev pub measure_of : {H A : Type 0} → Sub H A → Measure
measure_of s = record {
  width = s.width;
  wrap_width = min s.width (unwrap_or s.options.wrap_width s.width);
  overflow = s.options.allow_width_overflow;
  pads = s.options.pad_block_width;
}

-- the last mode, or Normal
abbrev pub mode_of : {H A : Type 0} → Sub H A → WhiteSpace
mode_of s = fold (λ _ mode. mode) Normal s.modes

abbrev pub with_laid : {H A : Type 0} → Sub H A → Laid (List A) → Sub H A
with_laid s laid = record s { laid = laid }

abbrev pub on_laid : {H A : Type 0} → Sub H A → Option (Laid (List A)) → Option (Sub H A)
on_laid s laid = option_map (with_laid s) laid

-- ---- text

-- U+0336 after each character that has columns, once for each strikeout
abbrev pub strokes_of : ℕ → ℕ → ℕ
strokes_of n c = if nat_lt 0 (width_of c) then n else 0

abbrev pub struck_character : ℕ → ℕ → List ℕ
struck_character n c = c ∷ replicate (strokes_of n c) 0x336

abbrev pub struck : ℕ → List ℕ → List ℕ
struck n cs = if n == 0 then cs else flat_map (struck_character n) cs

abbrev pub struck_text : {H A : Type 0} → Sub H A → List ℕ → List ℕ
struck_text s cs = if s.options.use_unicode_strikeout then struck s.strikeouts cs else cs

-- the annotations that stand and one more, where they are kept
abbrev pub one_under : {H A : Type 0} → A → Sub H A → List A
one_under annotation s = if s.keeps then s.annotations ++ annotation ∷ [] else s.annotations

-- under the annotations that stand, and in a preformatted part under one more, which says whether its line was wrapped
abbrev pub preformatted_added : {H A : Type 0} → Marking H A → List ℕ → Sub H A → Laid (List A)
    → Option (Laid (List A))
preformatted_added m cs s b = add_text (measure_of s) s.annotations (mode_of s) cs
    (one_under (m.mark_tag s.held preformat_first) s) (one_under (m.mark_tag s.held preformat_further) s) b

abbrev pub tagged_added : {H A : Type 0} → Marking H A → List ℕ → Sub H A → Laid (List A) → Option (Laid (List A))
tagged_added m cs s b =
    if nat_lt 0 s.preformats then preformatted_added m cs s b
    else add_text (measure_of s) s.annotations (mode_of s) cs s.annotations s.annotations b

abbrev pub text_added : {H A : Type 0} → Marking H A → List ℕ → Sub H A → Laid (List A) → Option (Laid (List A))
text_added m cs s b = tagged_added m (struck_text s cs) s b

abbrev pub add_inline : {H A : Type 0} → Marking H A → List ℕ → Sub H A → Option (Sub H A)
add_inline m cs s =
    if is_ignored (mode_of s) cs s.laid then Some s
    else on_laid s (option_and_then (text_added m cs s) (start_awaited (measure_of s) s.annotations s.laid))

-- ---- marks

abbrev pub with_held : {H A : Type 0} → H → Sub H A → Sub H A
with_held held s = record s { held = held }

abbrev pub pushed : {H A : Type 0} → A → Sub H A → Sub H A
pushed annotation s = record s { annotations = one_under annotation s }

abbrev pub popped : {H A : Type 0} → Sub H A → Sub H A
popped s = record s { annotations = before_last s.annotations }

-- Parts that have begun are counted up to 2^64 - 1.
abbrev pub one_more : ℕ → ℕ
one_more n = min (n + 1) 0xFFFFFFFFFFFFFFFF

abbrev pub struck_more : {H A : Type 0} → Sub H A → Sub H A
struck_more s = record s { strikeouts = one_more s.strikeouts }

abbrev pub struck_less : {H A : Type 0} → Sub H A → Sub H A
struck_less s = record s { strikeouts = s.strikeouts - 1 }

-- the annotation stands, and then the mark's text is added
abbrev pub begin : {H A : Type 0} → Marking H A → Mark → Sub H A → Option (Sub H A)
begin m kind s = add_inline m (m.mark_text s.held kind) (pushed (m.mark_tag s.held kind) s)

-- the text is added, and then the annotation ends
abbrev pub finish : {H A : Type 0} → Marking H A → Mark → Sub H A → Option (Sub H A)
finish m kind s = option_map popped (add_inline m (m.mark_text s.held kind) s)

abbrev pub begin_link : {H A : Type 0} → Marking H A → Mark → Sub H A → Option (Sub H A)
begin_link m kind s = add_inline m (m.mark_text s.held kind)
    (pushed (m.mark_tag s.held kind) (with_held (m.after s.held kind) s))

abbrev pub finish_link : {H A : Type 0} → Marking H A → Mark → Sub H A → Option (Sub H A)
finish_link m kind s = option_map popped
    (add_inline m (m.mark_text s.held kind) (with_held (m.after s.held kind) s))

abbrev pub begin_strikeout : {H A : Type 0} → Marking H A → Sub H A → Option (Sub H A)
begin_strikeout m s = option_map struck_more (begin m strikeout_start s)

abbrev pub finish_strikeout : {H A : Type 0} → Marking H A → Sub H A → Option (Sub H A)
finish_strikeout m s = finish m strikeout_end (struck_less s)

-- what stands after the last slash
abbrev pub file_name : List ℕ → List ℕ
file_name source = fold (λ name c. if c == 0x2F then [] else name ++ c ∷ []) [] source

-- the title of an image, and what stands for an empty one
abbrev pub image_title : ImageRenderMode → List ℕ → List ℕ → Option (List ℕ)
image_title mode source (c ∷ title) = Some (c ∷ title)
image_title IgnoreEmpty source [] = None
image_title ShowAlways source [] = Some []
image_title (Replace name) source [] = Some (chars name.now)
image_title Filename source [] = Some (file_name source)

abbrev pub add_titled : {H A : Type 0} → Marking H A → List ℕ → Option (List ℕ) → Sub H A → Option (Sub H A)
add_titled m source None s = Some s
add_titled m source (Some title) s = option_map popped (begin_link m (image source title) s)

abbrev pub add_image : {H A : Type 0} → Marking H A → List ℕ → List ℕ → Sub H A → Option (Sub H A)
add_image m source title s = add_titled m source (image_title s.options.img_mode source title) s

abbrev pub begin_colour : {H A : Type 0} → Marking H A → Mark → Sub H A → Sub H A
begin_colour m kind s =
    if m.has_tag s.held kind then pushed (m.mark_tag s.held kind) (with_held (m.after s.held kind) s)
    else with_held (m.after s.held kind) s

abbrev pub finish_colour : {H A : Type 0} → Marking H A → Mark → Sub H A → Sub H A
finish_colour m kind s =
    if m.ends_tag s.held kind then popped (with_held (m.after s.held kind) s) else with_held (m.after s.held kind) s

-- ---- other blocks

abbrev pub flush_sub : {H A : Type 0} → Sub H A → Option (Sub H A)
flush_sub s = on_laid s (flush (measure_of s) s.annotations s.laid)

abbrev pub with_block : {H A : Type 0} → Sub H A → List ℕ → List ℕ → Sub H A → Sub H A
with_block s first following other = with_laid s
    (add_block (measure_of other) (measure_of s) s.annotations first following other.laid.lines s.laid)

-- the lines of another renderer after prefixes
abbrev pub append_sub : {H A : Type 0} → Sub H A → List ℕ → List ℕ → Sub H A → Option (Sub H A)
append_sub other first following s = option_map (with_block s first following) (flush_sub other)

abbrev pub add_sub : {H A : Type 0} → Sub H A → List ℕ → List ℕ → Sub H A → Option (Sub H A)
add_sub other first following s = option_and_then (append_sub other first following) (flush_sub s)

abbrev pub cell_of_sub : {H A : Type 0} → ℕ → Sub H A → Cell (List A)
cell_of_sub rows s = record { width = s.width; rows = rows; lines = s.laid.lines }

abbrev pub before_cells : {H A : Type 0} → ℕ → Option (List (Cell (List A))) → Sub H A
    → Option (List (Cell (List A)))
before_cells rows cells s = option_map (λ cs. cell_of_sub rows s ∷ cs) cells

-- the cells that renderers are, each with the rows that it takes
abbrev pub cells_of_subs : {H A : Type 0} → List (Sub H A × ℕ) → Option (List (Cell (List A)))
cells_of_subs [] = Some []
cells_of_subs (c ∷ cells) = option_and_then (before_cells c.1 (cells_of_subs cells)) (flush_sub c.0)

abbrev pub with_cells : {H A : Type 0} → Bool → Sub H A → List (Cell (List A)) → Option (Sub H A)
with_cells collapse s cells =
    on_laid s (add_row (measure_of s) s.annotations s.options.draw_borders collapse cells s.laid)

abbrev pub add_cells : {H A : Type 0} → List (Sub H A × ℕ) → Bool → Sub H A → Option (Sub H A)
add_cells cells collapse s = option_and_then (with_cells collapse s) (cells_of_subs cells)

-- cells below one another, with a border of slashes between them and one of `─` below them where borders are drawn
abbrev pub slashed : {H A : Type 0} → Sub H A → Sub H A
slashed s = if s.options.draw_borders then with_laid s (add_slashes s.width s.annotations s.laid) else s

abbrev pub ruled : {H A : Type 0} → Sub H A → Sub H A
ruled s =
    if s.options.draw_borders then with_laid s (add_border (plain horizontal s.width s.annotations) s.laid) else s

abbrev pub add_below : {H A : Type 0} → List (Sub H A) → Sub H A → Option (Sub H A)
add_below [] s = Some s
add_below (c ∷ cells) s = option_and_then (add_below cells) (append_sub c [] [] (slashed s))

abbrev pub add_first : {H A : Type 0} → List (Sub H A) → Sub H A → Option (Sub H A)
add_first [] s = Some s
add_first (c ∷ cells) s = option_and_then (add_below cells) (append_sub c [] [] s)

abbrev pub add_rows_below : {H A : Type 0} → List (Sub H A) → Sub H A → Option (Sub H A)
add_rows_below cells s = option_map ruled (option_and_then (add_first cells) (flush_sub s))

-- ---- lines, blocks and modes

abbrev pub with_empty_line : {H A : Type 0} → Sub H A → Option (Sub H A)
with_empty_line s = on_laid s (add_empty_line (measure_of s) s.annotations s.laid)

abbrev pub with_block_started : {H A : Type 0} → Sub H A → Option (Sub H A)
with_block_started s = on_laid s (start_block (measure_of s) s.annotations s.laid)

abbrev pub with_table_started : {H A : Type 0} → Sub H A → Option (Sub H A)
with_table_started s = on_laid s (start_table (measure_of s) s.annotations s.laid)

abbrev pub with_block_ended : {H A : Type 0} → Sub H A → Sub H A
with_block_ended s = with_laid s (end_block s.laid)

abbrev pub with_line_broken : {H A : Type 0} → Sub H A → Option (Sub H A)
with_line_broken s = on_laid s (break_line (measure_of s) s.annotations s.laid)

abbrev pub with_border_of : {H A : Type 0} → ℕ → Sub H A → Option (Sub H A)
with_border_of width s = on_laid s (add_horizontal_border (measure_of s) s.annotations width s.laid)

abbrev pub with_fragment : {H A : Type 0} → List ℕ → Sub H A → Option (Sub H A)
with_fragment name s = Some (with_laid s (mark (measure_of s) s.annotations name s.laid))

abbrev pub with_preformat : {H A : Type 0} → Sub H A → Option (Sub H A)
with_preformat s = Some (record s { preformats = one_more s.preformats })

abbrev pub with_mode : {H A : Type 0} → WhiteSpace → Sub H A → Option (Sub H A)
with_mode mode s = Some (record s { modes = s.modes ++ mode ∷ [] })

-- ---- what comes of it

-- the lines, filled where lines are
abbrev pub lines_of_sub : {H A : Type 0} → Sub H A → Option (List (BlockLine (List A)))
lines_of_sub s = finished_lines (measure_of s) s.annotations s.laid

-- the columns after a prefix: at least so many are asked for after it, and one
abbrev pub room_after : {H A : Type 0} → ℕ → ℕ → Sub H A → Option ℕ
room_after prefix least s =
    let asked = max least 1 in
    if nat_le asked (s.width - prefix) then Some (s.width - prefix)
    else if s.options.allow_width_overflow then Some asked else None
