use Rattle.std.proofs.Common.{◌≡◌, ◌++◌, map}
use Rattle.std.specs.Vec.Iter.{into_iter_items}
use Rattle.article_layout.specs.Lines.{line_of, tag_of}
use Rattle.article_layout.specs.Seen.{of_paragraph}
use Rattle.text_cells.specs.Cells.{laid_line_of}
use Rattle.article_layout.proofs.paragraphs.numbered.Given as goal

abbrev pub invariant-loop-line : goal.invariant-loop-line
invariant-loop-line l =
    map line_of l.all.items
    ++ map (of_paragraph l.paragraph) (map (laid_line_of tag_of) (into_iter_items l.line-iterator))
    ≡ map (of_paragraph l.paragraph) (map (laid_line_of tag_of) l.fn.lines.items)
