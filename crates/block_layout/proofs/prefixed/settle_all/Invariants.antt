use Rattle.std.proofs.Common.{◌≡◌, ◌++◌, map, take, drop}
use Rattle.std.specs.Prelude.{All}
use Rattle.text_borders.specs.Lines.{IsJoinedText}
use Rattle.text_cells.specs.Cells.{laid_line_of}
use Rattle.block_layout.specs.Whole.{settled}
use Rattle.block_layout.proofs.prefixed.settle_all.Given as goal

abbrev pub invariant-loop-line : goal.invariant-loop-line
invariant-loop-line g l =
    let seen = g.T.EqualCopy.seen in
    let start = map (laid_line_of seen) l.initial.line-items in
    record {
      views : map (laid_line_of seen) l.line-items ≡ map (settled l.other (seen l.tag)) (take l.line-index start)
          ++ drop l.line-index start;
      joined : All (λ x. IsJoinedText seen x.line) (take l.line-index l.line-items);
    }
