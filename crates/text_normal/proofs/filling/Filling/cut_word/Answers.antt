use Rattle.std.proofs.Common.{subst}
use Rattle.std.proofs.lemmas.Iterator.{YieldsList-from_slice}
use Rattle.std.proofs.lemmas.Iterator.Consumers.{YieldsList-turn, YieldsList-end}
use Rattle.text_lines.specs.Tagged.{elements_items, line_elements}
use Rattle.text_normal.specs.NormalStates.{Cuts}
use Rattle.text_pieces.proofs.ElementLemmas.{all_taken}
use Rattle.text_normal.proofs.NormalFilling.{cuts_nothing, next_element}
use Rattle.text_normal.proofs.filling.Filling.cut_word.Goals as goal

pub loop-element-init : goal.loop-element-init
loop-element-init g c = cuts_nothing g.T.EqualCopy.seen c.args.self.now

pub loop-element-preserved : goal.loop-element-preserved
loop-element-preserved g c =
    let es = line_elements c.args.word.now in
    let t = YieldsList-turn (YieldsList-from_slice es cc) c.loop-element.yielded _ c.loop-element.yielded_by _ _
    c.in-Some.element c.in-Some.is c.next.ensures.steps in
    next_element g.T.EqualCopy.seen c.args.self.now c.loop-element.self _ es c.loop-element.yielded c.in-Some.element
    c.in-Some.element.now t c.loop-element.invariant c.in_ok-cut_element.ensures.laid

pub returns-clause-laid : goal.returns-clause-laid
returns-clause-laid g c =
    let es = line_elements c.args.word.now in
    let t = YieldsList-end (YieldsList-from_slice es cc) c.loop-element.yielded _ c.loop-element.yielded_by _ _
    c.in-None.is c.next.ensures.steps in
    subst (λ all. Cuts g.T.EqualCopy.seen c.args.self.now c.loop-element.self (elements_items g.T.EqualCopy.seen all))
    (all_taken es c.loop-element.yielded t.1) c.loop-element.invariant
