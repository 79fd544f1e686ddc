-- Blocks and inlines as contracts see them: each one is what it puts before the rest that follows it.
use Rattle.std.specs.Prelude.{ℕ, ℤ, List, [], ◌∷◌, map, chars, string_bytes, Vec, String, Option, option_map}
use Rattle.std.specs.Global.{Global}
use Rattle.std.specs.Int.{cast_signed, cast_unsigned, w64}
use Rattle.article_values.specs.Articles.{Blocks, Inlines, Items, bold, bullets, code, division, emphasis, heading}
use Rattle.article_values.specs.Articles.{italic, item, line_break, link, no_blocks, no_inlines, no_items, numbers}
use Rattle.article_values.specs.Articles.{paragraph, quote, span, strong, words}
use Rattle.article_values.specs.declared.values.Inline.{Inline, fold-Inline}
use Rattle.article_values.specs.declared.values.Inline.TheOpen.{Inline-F}
use Rattle.article_values.specs.declared.values.Block.{Block, fold-Block}
use Rattle.article_values.specs.declared.values.Block.TheOpen.{Block-F}

-- each before what follows it, and the end after the last
abbrev pub in_turn : {A : Type 0} → A → List (A → A) → A
in_turn end [] = end
in_turn end (before ∷ others) = before (in_turn end others)

abbrev pub inline_step : Inline-F (Inlines → Inlines) → Inlines → Inlines
inline_step (Inline-F.Text text) = words (chars (string_bytes text))
inline_step Inline-F.Break = line_break
inline_step (Inline-F.Bold contents) = span bold (in_turn no_inlines contents.items)
inline_step (Inline-F.Italic contents) = span italic (in_turn no_inlines contents.items)
inline_step (Inline-F.Emphasis contents) = span emphasis (in_turn no_inlines contents.items)
inline_step (Inline-F.Code contents) = span code (in_turn no_inlines contents.items)
inline_step (Inline-F.Strong contents) = span strong (in_turn no_inlines contents.items)
inline_step (Inline-F.Link target contents) =
    link (chars (string_bytes target)) (in_turn no_inlines contents.items)

abbrev pub inline_view : Inline → Inlines → Inlines
inline_view = fold-Inline (Inlines → Inlines) inline_step

abbrev pub inlines_view : List Inline → Inlines
inlines_view inlines = in_turn no_inlines (map inline_view inlines)

abbrev pub item_before : List (Blocks → Blocks) → Items → Items
item_before blocks rest = item (in_turn no_blocks blocks) rest

-- a number as 64 bits hold it, which is that number itself where it is one of 64 bits
abbrev pub held : ℤ → ℤ
held number = cast_signed w64 (cast_unsigned w64 number)

abbrev pub block_step : Block-F (Blocks → Blocks) → Blocks → Blocks
block_step (Block-F.Paragraph inlines) = paragraph (inlines_view inlines.items)
block_step (Block-F.Heading level inlines) = heading level (inlines_view inlines.items)
block_step (Block-F.Division blocks) = division (in_turn no_blocks blocks.items)
block_step (Block-F.Quote blocks) = quote (in_turn no_blocks blocks.items)
block_step (Block-F.Bullets items) = bullets (in_turn no_items (map (λ blocks. item_before blocks.items) items.items))
block_step (Block-F.Numbers first items) =
    numbers (held first) (in_turn no_items (map (λ blocks. item_before blocks.items) items.items))

abbrev pub block_view : Block → Blocks → Blocks
block_view = fold-Block (Blocks → Blocks) block_step

abbrev pub blocks_view : List Block → Blocks
blocks_view blocks = in_turn no_blocks (map block_view blocks)

abbrev pub items_view : List (Vec Block Global) → Items
items_view items = in_turn no_items (map (λ blocks. item_before (map block_view blocks.items)) items)

abbrev pub title_view : Option (String Global) → Option (List ℕ)
title_view title = option_map (λ text. chars (string_bytes text)) title

-- an article as contracts see it: the characters of its title, and its blocks
pub record ArticleParts : Type 0 where
  pub title : Option (List ℕ)
  pub blocks : List Block

abbrev pub parts_of : Option (String Global) → List Block → ArticleParts
parts_of title blocks = record { title = title_view title; blocks = blocks }
