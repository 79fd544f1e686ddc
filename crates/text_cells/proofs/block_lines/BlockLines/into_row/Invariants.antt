use Rattle.std.specs.Prelude.{◌≡◌, ◌++◌, map}
use Rattle.std.specs.Vec.Iter.{into_iter_items}
use Rattle.text_cells.specs.Texts.{in_row}
use Rattle.text_cells.specs.Cells.{texts_of, parts_lines}
use Rattle.text_cells.proofs.block_lines.BlockLines.into_row.Given as goal

abbrev pub invariant-loop-part : goal.invariant-loop-part
invariant-loop-part g l =
    let seen = g.T.EqualCopy.seen in
    texts_of seen l.all ++ map (in_row l.width (seen l.tag)) (parts_lines seen (into_iter_items l.part-iterator))
    ≡ map (in_row l.width (seen l.tag)) (parts_lines seen l.fn.self.parts.items)
