use Rattle.std.specs.Prelude.{◌≡◌, ◌++◌, map, length}
use Rattle.text_cells.specs.Texts.{laid_line_of, laid_text_of}
use Rattle.text_cells.specs.Cells.{texts_of, AreLinesJoined}
use Rattle.text_cells.proofs.block_lines.push_joined.Given as goal

abbrev pub invariant-loop-text : goal.invariant-loop-text
invariant-loop-text g l =
    let seen = g.T.EqualCopy.seen in
    record {
      lines : map (laid_line_of seen) l.all.items ++ map (laid_text_of seen) l.queue.items
          ≡ map (laid_line_of seen) l.fn.all.items ++ texts_of seen l.fn.texts;
      joined : AreLinesJoined seen l.fn.all.items → AreLinesJoined seen l.all.items;
    }

abbrev pub decreases-loop-text : goal.decreases-loop-text
decreases-loop-text g l = length l.queue.items
