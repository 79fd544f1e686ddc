use Rattle.std.proofs.Common.{chars, string_bytes}
use Rattle.text_lines.proofs.Joins.{marker_added}
use Rattle.text_lines.proofs.tagged_line.TaggedLine.append_marker.Goals as goal

pub invariant_of-self : goal.invariant_of-self
invariant_of-self g c =
    record {
      counted = marker_added g.T.EqualCopy.seen c.move_marker.result c.args.self.now.elements.items _
          (chars (string_bytes c.args.name)) _ c.move_marker.ensures.ok c.move_marker.ensures.err c.args.self.now.counted;
    }
