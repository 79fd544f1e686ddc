use Rattle.std.proofs.Common.{◌≡◌, ◌+◌, arith, chars}
use Rattle.text_lines.proofs.Fronts.{front_added}
use Rattle.text_lines.proofs.Joins.{same_columns}
use Rattle.text_lines.proofs.tagged_line.TaggedLine.push_front.Goals as goal

pub invariant_of-self : goal.invariant_of-self
invariant_of-self g c =
    record {
      counted = same_columns g.T.EqualCopy.seen c.args.self.now.elements.items _ _ c.in_err-push_front.ensures.err
          c.args.self.now.counted;
    }

pub invariant_of-self-2 : goal.invariant_of-self-2
invariant_of-self-2 g c =
    let sum : c.in_ok-wider.wider ≡ c.args.self.now.columns + c.columns_of.result = grind arith in
    record {
      counted = front_added g.T.EqualCopy.seen c.args.self.now.elements.items _ (chars c.args.text.now) _ _ _ _
          c.in_ok-push_front.ensures.ok c.args.self.now.counted c.columns_of.ensures sum;
    }
