use Rattle.std.specs.Prelude.{◌≡◌, ◌++◌, map}
use Rattle.std.specs.Vec.Iter.{into_iter_items}
use Rattle.text_cells.specs.Texts.{laid_line_of, in_row}
use Rattle.text_cells.specs.Cells.{texts_of}
use Rattle.text_cells.proofs.block_lines.push_lines.Given as goal

abbrev pub invariant-loop-laid : goal.invariant-loop-laid
invariant-loop-laid g l =
    let seen = g.T.EqualCopy.seen in
    texts_of seen l.all
    ++ map (in_row l.width (seen l.tag)) (map (laid_line_of seen) (into_iter_items l.laid-iterator))
    ≡ texts_of seen l.fn.all ++ map (in_row l.width (seen l.tag)) (map (laid_line_of seen) l.fn.lines.items)
