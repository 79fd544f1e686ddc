use Rattle.std.proofs.Common.{◌≡◌, ◌+◌, [], ◌∷◌, arith}
use Rattle.text_lines.proofs.Joins.{same_columns, text_added}
use Rattle.text_lines.proofs.Widths.{one_counted}
use Rattle.text_lines.proofs.tagged_line.TaggedLine.push_char.Goals as goal

pub invariant_of-self : goal.invariant_of-self
invariant_of-self g c =
    record {
      counted = same_columns g.T.EqualCopy.seen c.args.self.now.elements.items _ _
          c.in_err-push_character.ensures.err c.args.self.now.counted;
    }

pub invariant_of-self-2 : goal.invariant_of-self-2
invariant_of-self-2 g c =
    let sum : c.in_ok-wider.wider ≡ c.args.self.now.columns + c.unwrap_or.result = grind arith in
    record {
      counted = text_added g.T.EqualCopy.seen c.args.self.now.elements.items _ (c.args.c ∷ []) _ _ _ _
          c.in_ok-push_character.ensures.ok c.args.self.now.counted
          (one_counted c.args.c _ _ c.columns.ensures c.unwrap_or.ensures) sum;
    }
