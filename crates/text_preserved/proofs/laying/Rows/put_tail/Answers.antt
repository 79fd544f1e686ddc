use Rattle.std.proofs.lemmas.Iterator.{YieldsList-from_slice}
use Rattle.std.proofs.lemmas.Iterator.Consumers.{YieldsList-turn, YieldsList-end}
use Rattle.text_lines.specs.Tagged.{line_elements}
use Rattle.text_preserved.specs.Preserved.{put_space}
use Rattle.text_preserved.specs.Rows.{laying_of}
use Rattle.text_preserved.proofs.RowLemmas.{next_element, all_elements}
use Rattle.text_preserved.proofs.laying.Rows.put_tail.Goals as goal

pub loop-element-preserved : goal.loop-element-preserved
loop-element-preserved g c =
    let seen = g.T.EqualCopy.seen in
    let es = line_elements c.args.items.now in
    let t = YieldsList-turn (YieldsList-from_slice es cc) c.loop-element.yielded _ c.loop-element.yielded_by _ _
    c.in-Some.element c.in-Some.is c.next.ensures.steps in
    record {
      laid = next_element seen (put_space c.args.width) es c.loop-element.yielded c.in-Some.element
          c.in-Some.element.now t
          (laying_of seen c.args.self.now) (laying_of seen c.loop-element.self)
          (laying_of seen c.put_tail_element.new.self)
          c.loop-element.invariant.laid c.in_ok-put_tail_element.ensures.laid;
      joined = λ h. c.put_tail_element.ensures.joined (c.loop-element.invariant.joined h);
    }

pub returns-clause-laid : goal.returns-clause-laid
returns-clause-laid g c =
    let seen = g.T.EqualCopy.seen in
    let es = line_elements c.args.items.now in
    let t = YieldsList-end (YieldsList-from_slice es cc) c.loop-element.yielded _ c.loop-element.yielded_by _ _
    c.in-None.is c.next.ensures.steps in
    all_elements seen (put_space c.args.width) es c.loop-element.yielded t.1 (laying_of seen c.args.self.now)
    (laying_of seen c.loop-element.self) c.loop-element.invariant.laid
