use Rattle.text_lines.proofs.Elementwise.{CopiesAll-more, CopiesAll-items, all_copied}
use Rattle.text_lines.proofs.Joined.{copies_joined}
use Rattle.text_lines.proofs.Joins.{same_columns}
use Rattle.text_lines.proofs.tagged_line.TaggedLine.try_clone.Goals as goal

pub loop-element-preserved : goal.loop-element-preserved
loop-element-preserved g c =
    CopiesAll-more g.T.EqualCopy.seen c.deref-element-items.result.now c.loop-element.elements.items
    c.push.new.self.items c.loop-element.element-index c.element-item.result c.in_ok-try_clone.field-0
    c.loop-element-test.true c.element-item.is c.loop-element.invariant c.in_ok-push.ensures.items
    c.in_ok-try_clone.ensures

pub invariant_of-result : goal.invariant_of-result
invariant_of-result g c =
    let seen = g.T.EqualCopy.seen in
    let all = all_copied seen c.deref-element-items.result.now c.args.self.now.elements.items
    c.loop-element.elements.items c.loop-element.element-index c.deref-element-items.ensures.value
    c.loop-element-test.false c.loop-element.invariant in
    record {
      counted = same_columns seen c.args.self.now.elements.items c.loop-element.elements.items _
          (CopiesAll-items seen _ _ all) c.args.self.now.counted;
    }

pub returns-clause-items : goal.returns-clause-items
returns-clause-items g c =
    let seen = g.T.EqualCopy.seen in
    CopiesAll-items seen c.args.self.now.elements.items c.loop-element.elements.items
    (all_copied seen c.deref-element-items.result.now _ c.loop-element.elements.items c.loop-element.element-index
    c.deref-element-items.ensures.value c.loop-element-test.false c.loop-element.invariant)

pub returns-clause-joined : goal.returns-clause-joined
returns-clause-joined g c =
    let seen = g.T.EqualCopy.seen in
    copies_joined seen c.args.self.now.elements.items c.loop-element.elements.items
    (all_copied seen c.deref-element-items.result.now _ c.loop-element.elements.items c.loop-element.element-index
    c.deref-element-items.ensures.value c.loop-element-test.false c.loop-element.invariant)
