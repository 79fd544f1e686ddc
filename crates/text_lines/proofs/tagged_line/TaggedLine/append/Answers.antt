use Rattle.std.proofs.Common.{◌≡◌, ◌+◌, refl, arith}
use Rattle.text_lines.proofs.Joins.{same_columns, line_added}
use Rattle.text_lines.proofs.tagged_line.TaggedLine.append.Goals as goal

pub invariant_of-self : goal.invariant_of-self
invariant_of-self g c =
    record {
      counted = same_columns g.T.EqualCopy.seen c.args.self.now.elements.items _ _
          c.in_err-move_elements.ensures.err c.args.self.now.counted;
    }

pub invariant_of-self-2 : goal.invariant_of-self-2
invariant_of-self-2 g c =
    let sum : c.in_ok-total.total ≡ c.args.self.now.columns + c.args.other.now.columns = grind arith in
    record {
      counted = line_added g.T.EqualCopy.seen c.args.self.now.elements.items _ c.args.other.now.elements.items _
          _ _ _ c.in_ok-move_elements.ensures.ok refl c.args.self.now.counted c.args.other.now.counted
          sum;
    }
