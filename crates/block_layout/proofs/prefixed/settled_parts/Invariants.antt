use Rattle.std.specs.Prelude.{◌≡◌, ◌++◌, map}
use Rattle.std.specs.Vec.Iter.{into_iter_items}
use Rattle.text_cells.specs.Cells.{texts_of, parts_lines}
use Rattle.block_layout.specs.Whole.{settled}
use Rattle.block_layout.proofs.prefixed.settled_parts.Given as goal

abbrev pub invariant-loop-part : goal.invariant-loop-part
invariant-loop-part g l =
    let seen = g.T.EqualCopy.seen in
    texts_of seen l.all ++ map (settled l.other (seen l.tag)) (parts_lines seen (into_iter_items l.part-iterator))
    ≡ map (settled l.other (seen l.tag)) (parts_lines seen l.fn.parts.items)
