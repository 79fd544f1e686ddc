use Rattle.std.proofs.Common.{◌≡◌, map, fold, chars}
use Rattle.std.specs.Vec.Iter.{into_iter_items}
use Rattle.text_cells.specs.Cells.{laid_line_of}
use Rattle.block_layout.specs.Laid.{add_block, add_prefixed}
use Rattle.block_layout.specs.Seen.{laid_of, HasJoinedTexts}
use Rattle.block_layout.proofs.block.BlockLayout.add_each.Given as goal

abbrev pub invariant-loop-line : goal.invariant-loop-line
invariant-loop-line g l =
    let seen = g.T.EqualCopy.seen in
    record {
      laid : fold (add_prefixed l.other l.measure (seen l.tag) (chars l.following)) (laid_of seen l.self)
          (map (laid_line_of seen) (into_iter_items l.line-iterator))
          ≡ add_block l.other l.measure (seen l.tag) (chars l.first) (chars l.following)
          (map (laid_line_of seen) l.fn.lines.items) (laid_of seen l.fn.self);
      joined : HasJoinedTexts seen l.fn.self → HasJoinedTexts seen l.self;
    }
