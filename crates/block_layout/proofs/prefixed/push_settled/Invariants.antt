use Rattle.std.specs.Prelude.{◌≡◌, ◌++◌, map}
use Rattle.std.specs.Vec.Iter.{into_iter_items}
use Rattle.text_cells.specs.Cells.{laid_line_of, texts_of}
use Rattle.block_layout.specs.Whole.{settled}
use Rattle.block_layout.proofs.prefixed.push_settled.Given as goal

abbrev pub invariant-loop-laid : goal.invariant-loop-laid
invariant-loop-laid g l =
    let seen = g.T.EqualCopy.seen in
    texts_of seen l.all
    ++ map (settled l.other (seen l.tag)) (map (laid_line_of seen) (into_iter_items l.laid-iterator))
    ≡ texts_of seen l.fn.all ++ map (settled l.other (seen l.tag)) (map (laid_line_of seen) l.fn.lines.items)
