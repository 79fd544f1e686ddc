use Rattle.std.proofs.Common.{chars}
use Rattle.text_lines.proofs.Joins.{marker_added}
use Rattle.text_lines.proofs.tagged_line.TaggedLine.push_marker.Goals as goal

pub invariant_of-self : goal.invariant_of-self
invariant_of-self g c =
    record {
      counted = marker_added g.T.EqualCopy.seen c.push_marker.result c.args.self.now.elements.items _
          (chars c.args.name.now) _ c.push_marker.ensures.ok c.push_marker.ensures.err c.args.self.now.counted;
    }
