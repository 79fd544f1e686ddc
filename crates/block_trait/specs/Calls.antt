-- The calls of a renderer, and what each makes of one.
use Rattle.std.specs.Prelude.{ℕ, ◌-◌, Bool, List, Option, Some, map}
use Rattle.text_decorators.specs.Marks.{Mark, link_end}
use Rattle.text_pieces.specs.declared.white_space.WhiteSpace.{WhiteSpace}
use Rattle.block_layout.specs.LaidRows.{before_last}
use Rattle.block_trait.specs.Renderers.{Marking, Sub, add_cells, add_image, add_inline, add_rows_below, add_sub, begin}
use Rattle.block_trait.specs.Renderers.{begin_colour, begin_link, begin_strikeout, finish, finish_colour, finish_link}
use Rattle.block_trait.specs.Renderers.{finish_strikeout, flush_sub, with_block_ended, with_block_started}
use Rattle.block_trait.specs.Renderers.{with_border_of, with_empty_line, with_fragment, with_line_broken, with_mode}
use Rattle.block_trait.specs.Renderers.{with_preformat, with_table_started}

-- A call of a renderer; others that it takes are of type R.
pub data Call (R : Type 0) : Type 0 where
  adds_empty_line : Call R
  starts_block : Call R
  starts_table : Call R
  ends_block : Call R
  ends_line : Call R
  breaks_line : Call R
  adds_border : Call R
  -- of so many columns
  adds_border_of : ℕ → Call R
  starts_preformat : Call R
  ends_preformat : Call R
  starts_mode : WhiteSpace → Call R
  ends_mode : Call R
  adds_text : List ℕ → Call R
  -- a link, with its mark
  starts_link : Mark → Call R
  ends_link : Call R
  starts_strikeout : Call R
  ends_strikeout : Call R
  -- any other mark
  starts_mark : Mark → Call R
  ends_mark : Mark → Call R
  -- the source and the title
  adds_image : List ℕ → List ℕ → Call R
  -- the fragment of that name starts
  starts_fragment : List ℕ → Call R
  starts_colour : Mark → Call R
  ends_colour : Mark → Call R
  -- the prefixes of its first and of its other lines
  adds_block : R → List ℕ → List ℕ → Call R
  -- cells with the rows that they take, and whether their borders are taken in
  adds_cells : List (R × ℕ) → Bool → Call R
  adds_rows_below : List R → Call R

abbrev pub call_of : {R S : Type 0} → (R → S) → Call R → Call S
call_of f adds_empty_line = adds_empty_line
call_of f starts_block = starts_block
call_of f starts_table = starts_table
call_of f ends_block = ends_block
call_of f ends_line = ends_line
call_of f breaks_line = breaks_line
call_of f adds_border = adds_border
call_of f (adds_border_of width) = adds_border_of width
call_of f starts_preformat = starts_preformat
call_of f ends_preformat = ends_preformat
call_of f (starts_mode mode) = starts_mode mode
call_of f ends_mode = ends_mode
call_of f (adds_text cs) = adds_text cs
call_of f (starts_link kind) = starts_link kind
call_of f ends_link = ends_link
call_of f starts_strikeout = starts_strikeout
call_of f ends_strikeout = ends_strikeout
call_of f (starts_mark kind) = starts_mark kind
call_of f (ends_mark kind) = ends_mark kind
call_of f (adds_image source title) = adds_image source title
call_of f (starts_fragment name) = starts_fragment name
call_of f (starts_colour kind) = starts_colour kind
call_of f (ends_colour kind) = ends_colour kind
call_of f (adds_block other first following) = adds_block (f other) first following
call_of f (adds_cells cells collapse) = adds_cells (map (λ c. (f c.0, c.1)) cells) collapse
call_of f (adds_rows_below cells) = adds_rows_below (map f cells)

abbrev pub step : {H A : Type 0} → Marking H A → Call (Sub H A) → Sub H A → Option (Sub H A)
step m adds_empty_line s = with_empty_line s
step m starts_block s = with_block_started s
step m starts_table s = with_table_started s
step m ends_block s = Some (with_block_ended s)
step m ends_line s = flush_sub s
step m breaks_line s = with_line_broken s
step m adds_border s = with_border_of s.width s
step m (adds_border_of width) s = with_border_of width s
step m starts_preformat s = with_preformat s
step m ends_preformat s = Some (record s { preformats = s.preformats - 1 })
step m (starts_mode mode) s = with_mode mode s
step m ends_mode s = Some (record s { modes = before_last s.modes })
step m (adds_text cs) s = add_inline m cs s
step m (starts_link kind) s = begin_link m kind s
step m ends_link s = finish_link m link_end s
step m starts_strikeout s = begin_strikeout m s
step m ends_strikeout s = finish_strikeout m s
step m (starts_mark kind) s = begin m kind s
step m (ends_mark kind) s = finish m kind s
step m (adds_image source title) s = add_image m source title s
step m (starts_fragment name) s = with_fragment name s
step m (starts_colour kind) s = Some (begin_colour m kind s)
step m (ends_colour kind) s = Some (finish_colour m kind s)
step m (adds_block other first following) s = add_sub other first following s
step m (adds_cells cells collapse) s = add_cells cells collapse s
step m (adds_rows_below cells) s = add_rows_below cells s
