use Rattle.std.proofs.Common.{◌∙◌, ap, ◌++◌, length, take, drop}
use Rattle.std.proofs.lemmas.Iterator.{YieldsList-from_slice}
use Rattle.std.proofs.lemmas.Iterator.Consumers.{YieldsList-turn, YieldsList-end}
use Rattle.text_lines.specs.Tagged.{line_items, line_elements, element_items, elements_items}
use Rattle.text_pieces.proofs.ElementLemmas.{all_taken}
use Rattle.text_preserved.proofs.RowLemmas.{items_taken}
use Rattle.text_preserved.proofs.DropLemmas.{dropped_more, left_less}
use Rattle.text_preserved.proofs.breaking.push_dropped.Goals as goal

pub loop-element-preserved : goal.loop-element-preserved
loop-element-preserved g c =
    let seen = g.T.EqualCopy.seen in
    let es = line_elements c.args.items.now in
    let t = YieldsList-turn (YieldsList-from_slice es cc) c.loop-element.yielded _ c.loop-element.yielded_by _ _
    c.in-Some.element c.in-Some.is c.next.ensures.steps in
    let front = elements_items seen (take (length c.loop-element.yielded) es) in
    let more = element_items seen c.in-Some.element.now in
    let whole = items_taken seen es c.loop-element.yielded c.in-Some.element c.in-Some.element.now t in
    record {
      items = dropped_more c.args.dropped c.loop-element.left front more _ (line_items seen c.args.line.now)
          (line_items seen c.loop-element.line) (line_items seen c.push_element_dropped.new.line) whole
          c.loop-element.invariant.left c.loop-element.invariant.items c.in_ok-left.ensures.items;
      left = left_less c.args.dropped c.loop-element.left c.in_ok-left.left front more _ whole
          c.loop-element.invariant.left c.in_ok-left.ensures.left;
      joined = λ h. c.push_element_dropped.ensures.joined (c.loop-element.invariant.joined h);
    }

pub returns-clause-items : goal.returns-clause-items
returns-clause-items g c =
    let seen = g.T.EqualCopy.seen in
    let es = line_elements c.args.items.now in
    let t = YieldsList-end (YieldsList-from_slice es cc) c.loop-element.yielded _ c.loop-element.yielded_by _ _
    c.in-None.is c.next.ensures.steps in
    c.loop-element.invariant.items
    ∙ ap (λ all. line_items seen c.args.line.now ++ drop c.args.dropped (elements_items seen all))
    (all_taken es c.loop-element.yielded t.1)
