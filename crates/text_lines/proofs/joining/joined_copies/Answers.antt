use Rattle.text_lines.proofs.Joins.{items_more}
use Rattle.text_lines.proofs.joining.joined_copies.Goals as goal

pub loop-element-preserved : goal.loop-element-preserved
loop-element-preserved g c = record {
  items = items_more g.T.EqualCopy.seen c.args.elements.now c.loop-element.element-index c.element-item.result _ _
      c.loop-element-test.true c.element-item.is c.loop-element.invariant.items c.in_ok-push_element.ensures.ok;
  joined = c.push_element.ensures.joined c.loop-element.invariant.joined;
}
