use Rattle.std.proofs.Common.{map}
use Rattle.std.proofs.lemmas.List.{map-append}
use Rattle.std.proofs.lemmas.Iterator.{YieldsList-from_slice}
use Rattle.std.proofs.lemmas.Iterator.Consumers.{YieldsList-turn, YieldsList-end}
use Rattle.text_lines.specs.Tagged.{line_items, line_elements}
use Rattle.text_normal.specs.Riders.{shown_item}
use Rattle.text_normal.specs.MarkedTags.{tag_seen}
use Rattle.text_pieces.proofs.ElementLemmas.{next_made, all_made}
use Rattle.text_normal.proofs.shown.push_shown.Goals as goal

pub loop-element-preserved : goal.loop-element-preserved
loop-element-preserved g c =
    let seen = g.T.EqualCopy.seen in
    let es = line_elements c.args.line.now in
    let t = YieldsList-turn (YieldsList-from_slice es cc) c.loop-element.yielded _ c.loop-element.yielded_by _ _
    c.in-Some.element c.in-Some.is c.next.ensures.steps in
    record {
      items = next_made (tag_seen seen) (map (shown_item {S = g.T.EqualCopy.Seen}))
          (map-append (shown_item {S = g.T.EqualCopy.Seen})) es c.loop-element.yielded c.in-Some.element
          c.in-Some.element.now t (line_items seen c.args.front.now) (line_items seen c.loop-element.front)
          (line_items seen c.push_element.new.front) c.loop-element.invariant.items c.in_ok-push_element.ensures.ok;
      joined = λ h. c.push_element.ensures.joined (c.loop-element.invariant.joined h);
    }

pub returns-clause-ok : goal.returns-clause-ok
returns-clause-ok g c =
    let seen = g.T.EqualCopy.seen in
    let es = line_elements c.args.line.now in
    let t = YieldsList-end (YieldsList-from_slice es cc) c.loop-element.yielded _ c.loop-element.yielded_by _ _
    c.in-None.is c.next.ensures.steps in
    all_made (tag_seen seen) (map (shown_item {S = g.T.EqualCopy.Seen})) es c.loop-element.yielded t.1
    (line_items seen c.args.front.now) (line_items seen c.loop-element.front) c.loop-element.invariant.items
