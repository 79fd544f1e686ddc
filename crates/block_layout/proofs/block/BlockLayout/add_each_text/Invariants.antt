use Rattle.std.specs.Prelude.{◌≡◌, map, length}
use Rattle.text_lines.specs.Tagged.{line_items}
use Rattle.text_cells.specs.Cells.{texts_items}
use Rattle.block_layout.specs.LaidRows.{add_row_lines}
use Rattle.block_layout.specs.Seen.{laid_of, HasJoinedTexts}
use Rattle.block_layout.proofs.block.BlockLayout.add_each_text.Given as goal

abbrev pub invariant-loop-text : goal.invariant-loop-text
invariant-loop-text g l =
    let seen = g.T.EqualCopy.seen in
    record {
      laid : add_row_lines l.measure (seen l.tag) (map (λ t. line_items seen t.line) l.queue.items) (laid_of seen l.self)
          ≡ add_row_lines l.measure (seen l.tag) (texts_items seen l.fn.texts) (laid_of seen l.initial.self);
      joined : HasJoinedTexts seen l.initial.self → HasJoinedTexts seen l.self;
    }

abbrev pub decreases-loop-text : goal.decreases-loop-text
decreases-loop-text g l = length l.queue.items
