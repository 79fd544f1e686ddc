-- What a walk over an article makes of what it laid out before: the targets of links so far and the paragraphs so far
-- are kept beside the lines, where the layout counts them.
use Rattle.std.specs.Prelude.{◌+◌, [], ◌∷◌, ◌++◌, ◌&&◌, if◌then◌else◌, Bool, List, None, Option, Some, codes, replicate}
use Rattle.std.specs.Prelude.{suc, ℕ, ℤ}
use Rattle.std.specs.Option.{option_map, option_and_then}
use Rattle.article_definitions.specs.Layouts.{Line, Options, Tag, all_shallow, how_many, item_prefix, least_in}
use Rattle.article_definitions.specs.Layouts.{least_of, least_of_items, mark_of, next_number, notes, number_mark}
use Rattle.article_definitions.specs.Layouts.{paragraph_lines, parted, prefixed, quote_prefix, room, room_of_numbers}
use Rattle.article_definitions.specs.Layouts.{listed_targets, targets_in, to_room, within}
use Rattle.article_values.specs.Articles.{Blocks, Inlines, Items, Style, bullets, division, heading, item, line_break}
use Rattle.article_values.specs.Articles.{link, no_blocks, no_inlines, no_items, numbers, paragraph, quote, span, words}
use Rattle.block_layout.specs.Laid.{Laid, add_text, break_line}
use Rattle.block_layout.specs.declared.measure.Measure.{Measure}
use Rattle.layout_state.specs.Items.{spaces}
use Rattle.render_sizes.specs.Extents.{capped}
use Rattle.text_pieces.specs.Sources.{is_filled}
use Rattle.text_pieces.specs.declared.white_space.WhiteSpace.TheVariants.{Normal}

-- ---- a paragraph

-- its block of lines, and the targets so far
pub record Said : Type 0 where
  pub laid : Laid Tag
  pub targets : List (List ℕ)

abbrev pub in_said : Said → Laid Tag → Said
in_said s laid = record s { laid = laid }

abbrev pub with_target : List ℕ → Said → Said
with_target target s = record s { targets = s.targets ++ target ∷ [] }

abbrev pub adds : Measure → List ℕ → Tag → Said → Option Said
adds m cs tag s = option_map (in_said s) (add_text m tag Normal cs tag tag s.laid)

abbrev pub breaks_at : Measure → Tag → Said → Option Said
breaks_at m tag s = option_map (in_said s) (break_line m tag s.laid)

abbrev pub spanned : Options → Measure → Tag → Style → (Said → Option Said) → Said → Option Said
spanned o m tag style inside s = option_and_then (adds m (mark_of o style) (within tag))
    (option_and_then inside (adds m (mark_of o style) (within tag) s))

abbrev pub numbered : Options → Measure → Tag → Said → Option Said
numbered o m tag s = adds m (number_mark o s.targets) tag s

abbrev pub shown_link : Options → Measure → Tag → List ℕ → (Said → Option Said) → Said → Option Said
shown_link o m tag target inside s = option_and_then (numbered o m tag)
    (option_and_then (adds m (codes "]") (within tag))
    (option_and_then inside (adds m (codes "[") (within tag) (with_target target s))))

abbrev pub linked : (shallow : Bool) → Options → Measure → Tag → List ℕ → (Said → Option Said) → Said → Option Said
linked shallow o m tag target inside s = if shallow then Some s else shown_link o m tag target inside s

abbrev pub said : Options → Measure → Tag → Inlines → Said → Option Said
said o m tag no_inlines s = Some s
said o m tag (words cs rest) s = option_and_then (said o m tag rest) (adds m cs tag s)
said o m tag (line_break rest) s = option_and_then (said o m tag rest) (breaks_at m tag s)
said o m tag (span style kids rest) s =
    option_and_then (said o m tag rest) (spanned o m tag style (said o m (within tag) kids) s)
said o m tag (link target kids rest) s = option_and_then (said o m tag rest)
    (linked (all_shallow o kids) o m tag target (said o m (within tag) kids) s)

-- ---- blocks

-- lines, how many paragraphs there were so far, and the targets so far
pub record At : Type 0 where
  pub lines : List Line
  pub paragraphs : ℕ
  pub targets : List (List ℕ)

abbrev pub parted_at : Options → ℕ → At → At
parted_at o width s = record s { lines = parted o width s.lines }

abbrev pub after_paragraph : Options → Inlines → At → List Line → At
after_paragraph o is s lines = record {
  lines = lines;
  paragraphs = suc s.paragraphs;
  targets = s.targets ++ targets_in o is;
}

abbrev pub own_lines : Options → ℕ → Inlines → At → Option (List Line)
own_lines o width is s = paragraph_lines o width s.paragraphs s.targets is

abbrev pub with_paragraph : Options → ℕ → Inlines → At → Option At
with_paragraph o width is s =
    option_map (λ new. after_paragraph o is s (parted o width s.lines ++ new)) (own_lines o width is s)

abbrev pub heading_prefix : ℕ → List ℕ
heading_prefix level = replicate level 0x23 ++ codes " "

abbrev pub heading_lines : Options → ℕ → ℕ → Inlines → At → Option (List Line)
heading_lines o width level is s = option_and_then (λ within. own_lines o within is s)
    (room width (level + 1) (capped (least_in o is + (level + 1))))

abbrev pub with_heading : Options → ℕ → ℕ → Inlines → At → Option At
with_heading o width level is s = option_map (λ new. after_paragraph o is s (parted o width s.lines
    ++ prefixed o width (heading_prefix level) (heading_prefix level) new)) (heading_lines o width level is s)

-- an item's lines after its prefix
abbrev pub after_item : Options → ℕ → ℕ → Option ℤ → At → At → At
after_item o width columns at s inner =
    record inner { lines = s.lines ++ prefixed o width (to_room columns (item_prefix at)) (spaces columns) inner.lines }

abbrev pub with_item : Options → (width columns least : ℕ) → Option ℤ → (ℕ → At → Option At) → At → Option At
with_item o width columns least at inside s = option_map (after_item o width columns at s)
    (option_and_then (λ within. inside within (record s { lines = [] })) (room width columns least))

-- a quote's lines after its prefix
abbrev pub after_quote : Options → ℕ → At → At → At
after_quote o width s inner = record inner {
  lines = parted o width s.lines ++ prefixed o width quote_prefix quote_prefix inner.lines;
}

abbrev pub with_quote : Options → (width least : ℕ) → (ℕ → At → Option At) → At → Option At
with_quote o width least inside s = option_map (after_quote o width s)
    (option_and_then (λ within. inside within (record s { lines = [] })) (room width 2 least))

abbrev mutual
  pub laid : Options → ℕ → Blocks → At → Option At
  laid o width no_blocks s = Some s
  laid o width (paragraph is rest) s = option_and_then (laid o width rest) (with_paragraph o width is s)
  laid o width (heading level is rest) s = option_and_then (laid o width rest) (with_heading o width level is s)
  laid o width (division kids rest) s = option_and_then (laid o width rest) (laid o width kids s)
  laid o width (quote kids rest) s = option_and_then (laid o width rest)
      (with_quote o width (capped (least_of o kids + 2)) (λ within inner. laid o within kids inner) s)
  laid o width (bullets items rest) s = option_and_then (laid o width rest)
      (laid_items o width 2 (capped (least_of_items o items + 2)) None items (parted_at o width s))
  laid o width (numbers first items rest) s = option_and_then (laid o width rest)
      (laid_items o width (room_of_numbers first (how_many items))
      (capped (least_of_items o items + room_of_numbers first (how_many items))) (Some first) items
      (parted_at o width s))

  pub laid_items : Options → (width columns least : ℕ) → Option ℤ → Items → At → Option At
  laid_items o width columns least at no_items s = Some s
  laid_items o width columns least at (item kids rest) s =
      option_and_then (laid_items o width columns least (next_number at) rest)
      (with_item o width columns least at (λ within inner. laid o within kids inner) s)

-- ---- after the last block

-- the targets are a block of their own, where there are any
abbrev pub with_notes : Options → ℕ → List (List ℕ) → List Line → List Line
with_notes o width targets lines =
    if o.footnotes && is_filled targets
    then parted o width lines ++ notes o width (listed_targets o targets) else lines
