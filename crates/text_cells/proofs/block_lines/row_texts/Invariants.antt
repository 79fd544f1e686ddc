use Rattle.std.specs.Prelude.{◌≡◌, ◌++◌, map, length}
use Rattle.text_cells.specs.Texts.{laid_text_of, in_row}
use Rattle.text_cells.specs.Cells.{texts_of}
use Rattle.text_cells.proofs.block_lines.row_texts.Given as goal

abbrev pub invariant-loop-text : goal.invariant-loop-text
invariant-loop-text g l =
    let seen = g.T.EqualCopy.seen in
    texts_of seen l.all ++ map (in_row l.width (seen l.tag)) (map (laid_text_of seen) l.queue.items)
    ≡ map (in_row l.width (seen l.tag)) (texts_of seen l.fn.texts)

abbrev pub decreases-loop-text : goal.decreases-loop-text
decreases-loop-text g l = length l.queue.items
