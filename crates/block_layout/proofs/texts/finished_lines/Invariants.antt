use Rattle.std.proofs.Common.{◌≡◌, ◌++◌, map}
use Rattle.std.specs.Prelude.{All}
use Rattle.std.specs.Vec.Iter.{into_iter_items}
use Rattle.text_borders.specs.Lines.{render_line_of, IsJoinedText}
use Rattle.text_cells.specs.Cells.{laid_line_of}
use Rattle.block_layout.specs.Laid.{finished}
use Rattle.block_layout.specs.Seen.{AreLinesJoined}
use Rattle.block_layout.proofs.texts.finished_lines.Given as goal

abbrev pub invariant-loop-laid : goal.invariant-loop-laid
invariant-loop-laid g l =
    let seen = g.T.EqualCopy.seen in
    record {
      lines : map (render_line_of seen) l.done.items
          ++ map (λ x. finished l.measure x.line) (map (laid_line_of seen) (into_iter_items l.laid-iterator))
          ≡ map (λ x. finished l.measure x.line) (map (laid_line_of seen) l.fn.lines.items);
      joined : AreLinesJoined seen l.fn.lines.items
          → All (IsJoinedText seen) l.done.items × AreLinesJoined seen (into_iter_items l.laid-iterator);
    }
