use Rattle.std.proofs.Common.{refl, arith}
use Rattle.std.proofs.lemmas.Grind.{common_steps}
use Rattle.text_lines.specs.Tagged.{line_items}
use Rattle.text_lines.proofs.SpacesPushed.{spaces_more}
use Rattle.text_lines.proofs.tagged_line.TaggedLine.push_spaces.Goals as goal

pub loop-left-preserved : goal.loop-left-preserved
loop-left-preserved g c =
    let seen = g.T.EqualCopy.seen in
    record {
      items = spaces_more (line_items seen c.loop-left.self) (line_items seen c.push_str.new.self) _
          c.spaces.result.now c.min-part.result c.loop-left.left _ (seen c.args.tag.now) c.spaces.ensures refl
          (grind (arith, common_steps)) c.in_ok-push_str.ensures.ok c.loop-left.invariant.items;
      joined = λ h. c.push_str.ensures.joined (c.loop-left.invariant.joined h);
    }
