-- What contracts see of an article's lines, while they are laid out and when they are emitted.
use Rattle.std.specs.Prelude.{ℕ, List, Option, Some, Vec, filter, map, not}
use Rattle.article_layout.specs.declared.layout.ArticleLine.{ArticleLine}
use Rattle.article_layout.specs.declared.line_list.LineList.{LineList}
use Rattle.article_layout.specs.declared.paragraphs.After.{After}
use Rattle.article_layout.specs.Lines.{line_of, tag_of}
use Rattle.article_layout.specs.Walks.{At, Said}
use Rattle.article_definitions.specs.Exchanges.{is_number}
use Rattle.article_definitions.specs.Layouts.{Line, Tag}
use Rattle.block_layout.specs.Seen.{laid_of}
use Rattle.block_layout.specs.declared.block.BlockLayout.{BlockLayout}
use Rattle.text_footnotes.specs.Links.{all_targets}
use Rattle.text_footnotes.specs.declared.link_targets.LinkTargets.{LinkTargets}
use Rattle.std.specs.Global.{Global}
use Rattle.text_lines.specs.Tagged.{Item, line_items}
use Rattle.text_borders.specs.Across.{CellLine}
use Rattle.text_borders.specs.Lines.{line_shown}

abbrev pub lines_of : LineList → List Line
lines_of lines = map line_of lines.lines.items

-- a paragraph's block of lines, with the targets so far
abbrev pub said_of : BlockLayout (Vec (Unit {0}) Global) → LinkTargets → Said
said_of block targets = record { laid = laid_of tag_of block; targets = all_targets targets }

-- a line of a block as one of a paragraph
abbrev pub of_paragraph : ℕ → CellLine Tag → Line
of_paragraph k l = record { items = line_shown l.line; content = l.content; number = Some k }

-- lines, with what came so far
abbrev pub at_of : LineList → After → At
at_of lines trailing = record {
  lines = lines_of lines;
  paragraphs = trailing.paragraphs;
  targets = all_targets trailing.targets;
}

-- a line that is emitted
pub record Emitted : Type 0 where
  pub items : List (Item Tag)
  pub paragraph : Option ℕ

abbrev pub emitted_of : ArticleLine → Emitted
emitted_of l = record { items = line_items tag_of l.line; paragraph = l.paragraph }

abbrev pub emitted : Line → Emitted
emitted l = record { items = l.items; paragraph = l.number }

-- the lines that are emitted and are not of a paragraph
abbrev pub others_emitted : ℕ → List Emitted → List Emitted
others_emitted n lines = filter (λ l. not (is_number n l.paragraph)) lines
