-- Blocks and inlines as contracts see them: in their order, each before the rest that follows it.
use Rattle.std.specs.Prelude.{ℕ, ℤ, List}

-- how a span shows its contents
pub data Style : Type 0 where
  bold : Style
  italic : Style
  emphasis : Style
  code : Style
  strong : Style

-- What stands in a paragraph: texts, line breaks, and contents shown in a style or leading to a target. Texts and
-- targets are their characters.
pub data Inlines : Type 0 where
  no_inlines : Inlines
  words : List ℕ → Inlines → Inlines
  line_break : Inlines → Inlines
  span : Style → Inlines → Inlines → Inlines
  link : List ℕ → Inlines → Inlines → Inlines

mutual
  -- paragraphs, headings of a level, divisions, quotes, and lists of items, with bullets or with numbers from a first
  -- one on
  pub data Blocks : Type 0 where
    no_blocks : Blocks
    paragraph : Inlines → Blocks → Blocks
    heading : ℕ → Inlines → Blocks → Blocks
    division : Blocks → Blocks → Blocks
    quote : Blocks → Blocks → Blocks
    bullets : Items → Blocks → Blocks
    numbers : ℤ → Items → Blocks → Blocks

  pub data Items : Type 0 where
    no_items : Items
    item : Blocks → Items → Items
