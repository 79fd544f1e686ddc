-- Articles of paragraphs alone.
use Rattle.article_values.specs.Articles.{Blocks, bullets, division, heading, no_blocks, numbers, paragraph, quote}

abbrev pub AreParagraphs : Blocks → Type 0
AreParagraphs no_blocks = Unit {0}
AreParagraphs (paragraph is rest) = AreParagraphs rest
AreParagraphs (heading level is rest) = ⊥
AreParagraphs (division kids rest) = ⊥
AreParagraphs (quote kids rest) = ⊥
AreParagraphs (bullets items rest) = ⊥
AreParagraphs (numbers first items rest) = ⊥
