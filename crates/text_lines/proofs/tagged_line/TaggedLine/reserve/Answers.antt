use Rattle.text_lines.proofs.Joins.{same_columns}
use Rattle.text_lines.proofs.tagged_line.TaggedLine.reserve.Goals as goal

pub invariant_of-self : goal.invariant_of-self
invariant_of-self g c =
    record {
      counted = same_columns g.T.EqualCopy.seen c.args.self.now.elements.items _ _ c.reserve_last.ensures.items
          c.args.self.now.counted;
    }
