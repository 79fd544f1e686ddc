use Rattle.std.proofs.lemmas.Iterator.{YieldsList-from_slice}
use Rattle.std.proofs.lemmas.Iterator.Consumers.{YieldsList-turn, YieldsList-end}
use Rattle.text_lines.specs.Tagged.{line_elements}
use Rattle.text_footnotes.specs.Cuts.{cut_of, tags_seen, placed_noted}
use Rattle.text_footnotes.proofs.CutLemmas.{next_element, all_elements}
use Rattle.text_footnotes.proofs.footnotes.push_line.Goals as goal

pub loop-element-preserved : goal.loop-element-preserved
loop-element-preserved g c =
    let tags = tags_seen g.A.EqualCopy.seen in
    let es = line_elements c.args.line.now in
    let t = YieldsList-turn (YieldsList-from_slice es cc) c.loop-element.yielded _ c.loop-element.yielded_by _ _
    c.in-Some.element c.in-Some.is c.next.ensures.steps in
    record {
      placed = next_element g.A.EqualCopy.seen (placed_noted c.args.width) es c.loop-element.yielded c.in-Some.element
          c.in-Some.element.now t (cut_of tags c.args.cut.now) (cut_of tags c.loop-element.cut)
          (cut_of tags c.push_element.new.cut) c.loop-element.invariant.placed c.in_ok-push_element.ensures.placed;
      joined = λ h. c.push_element.ensures.joined (c.loop-element.invariant.joined h);
    }

pub returns-clause-placed : goal.returns-clause-placed
returns-clause-placed g c =
    let tags = tags_seen g.A.EqualCopy.seen in
    let es = line_elements c.args.line.now in
    let t = YieldsList-end (YieldsList-from_slice es cc) c.loop-element.yielded _ c.loop-element.yielded_by _ _
    c.in-None.is c.next.ensures.steps in
    all_elements g.A.EqualCopy.seen (placed_noted c.args.width) es c.loop-element.yielded t.1
    (cut_of tags c.args.cut.now) (cut_of tags c.loop-element.cut) c.loop-element.invariant.placed
