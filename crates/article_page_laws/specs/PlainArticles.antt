-- Articles of paragraphs, headings, divisions and lists, and of texts, breaks, bold, italic, emphasised text, code and
-- links; and the same as articles that may hold more.
use Rattle.std.specs.Prelude.{ℕ, ℤ, List}
use Rattle.article_values.specs.Articles as articles
use Rattle.article_values.specs.Articles.{Blocks, Inlines, Items, Style}

pub data PlainStyle : Type 0 where
  bold : PlainStyle
  italic : PlainStyle
  emphasis : PlainStyle
  code : PlainStyle

pub data PlainInlines : Type 0 where
  no_inlines : PlainInlines
  words : List ℕ → PlainInlines → PlainInlines
  line_break : PlainInlines → PlainInlines
  span : PlainStyle → PlainInlines → PlainInlines → PlainInlines
  link : List ℕ → PlainInlines → PlainInlines → PlainInlines

mutual
  pub data PlainBlocks : Type 0 where
    no_blocks : PlainBlocks
    paragraph : PlainInlines → PlainBlocks → PlainBlocks
    heading : ℕ → PlainInlines → PlainBlocks → PlainBlocks
    division : PlainBlocks → PlainBlocks → PlainBlocks
    bullets : PlainItems → PlainBlocks → PlainBlocks
    numbers : ℤ → PlainItems → PlainBlocks → PlainBlocks

  pub data PlainItems : Type 0 where
    no_items : PlainItems
    item : PlainBlocks → PlainItems → PlainItems

abbrev pub wide_style : PlainStyle → Style
wide_style bold = articles.bold
wide_style italic = articles.italic
wide_style emphasis = articles.emphasis
wide_style code = articles.code

abbrev pub wide_inlines : PlainInlines → Inlines
wide_inlines no_inlines = articles.no_inlines
wide_inlines (words cs rest) = articles.words cs (wide_inlines rest)
wide_inlines (line_break rest) = articles.line_break (wide_inlines rest)
wide_inlines (span style kids rest) = articles.span (wide_style style) (wide_inlines kids) (wide_inlines rest)
wide_inlines (link target kids rest) = articles.link target (wide_inlines kids) (wide_inlines rest)

abbrev mutual
  pub wide_blocks : PlainBlocks → Blocks
  wide_blocks no_blocks = articles.no_blocks
  wide_blocks (paragraph is rest) = articles.paragraph (wide_inlines is) (wide_blocks rest)
  wide_blocks (heading level is rest) = articles.heading level (wide_inlines is) (wide_blocks rest)
  wide_blocks (division kids rest) = articles.division (wide_blocks kids) (wide_blocks rest)
  wide_blocks (bullets items rest) = articles.bullets (wide_items items) (wide_blocks rest)
  wide_blocks (numbers first items rest) = articles.numbers first (wide_items items) (wide_blocks rest)

  pub wide_items : PlainItems → Items
  wide_items no_items = articles.no_items
  wide_items (item kids rest) = articles.item (wide_blocks kids) (wide_items rest)
