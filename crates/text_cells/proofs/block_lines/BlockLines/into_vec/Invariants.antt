use Rattle.std.specs.Prelude.{◌≡◌, ◌++◌, map, All}
use Rattle.std.specs.Vec.Iter.{into_iter_items}
use Rattle.text_cells.specs.Texts.{laid_line_of}
use Rattle.text_cells.specs.Cells.{parts_lines, AreLinesJoined}
use Rattle.text_cells.proofs.block_lines.BlockLines.into_vec.Given as goal

abbrev pub invariant-loop-part : goal.invariant-loop-part
invariant-loop-part g l =
    let seen = g.T.EqualCopy.seen in
    record {
      lines : map (laid_line_of seen) l.all.items ++ parts_lines seen (into_iter_items l.part-iterator)
          ≡ parts_lines seen l.fn.self.parts.items;
      joined : All (λ p. AreLinesJoined seen p.before.items) l.fn.self.parts.items → AreLinesJoined seen l.all.items
          × All (λ p. AreLinesJoined seen p.before.items) (into_iter_items l.part-iterator);
    }
