use Rattle.text_lines.proofs.Copying.{seen_more}
use Rattle.text_lines.proofs.equal_copy.EqualCopy.copies.Goals as goal

pub loop-tag-preserved : goal.loop-tag-preserved
loop-tag-preserved g c =
    seen_more g.Self.EqualCopy.seen c.args.tags.now c.loop-tag.copies.items c.push.new.self.items
    c.loop-tag.tag-index c.tag-item.result _ c.loop-tag-test.true c.tag-item.is c.loop-tag.invariant
    c.in_ok-push.ensures.items c.in_ok-copy.ensures
