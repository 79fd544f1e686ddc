use Rattle.std.proofs.Common.{[], ◌++◌, ap, ◌∙◌, chars}
use Rattle.std.proofs.lemmas.Iterator.{YieldsList-from_slice}
use Rattle.std.proofs.lemmas.Iterator.Consumers.{YieldsList-turn, YieldsList-end}
use Rattle.text_lines.specs.Tagged.{line_items, line_elements, tagged}
use Rattle.text_pieces.proofs.ElementLemmas.{next_made, all_made}
use Rattle.text_borders.specs.Across.{retagged}
use Rattle.text_borders.proofs.RetagLemmas.{retagged-append, element_retagged}
use Rattle.text_borders.proofs.render_line.retagged.Goals as goal

pub loop-element-preserved : goal.loop-element-preserved
loop-element-preserved g c =
    let seen = g.T.EqualCopy.seen in
    let tag = seen c.args.tag.now in
    let es = line_elements c.args.line.now in
    let t = YieldsList-turn (YieldsList-from_slice es cc) c.loop-element.yielded _ c.loop-element.yielded_by _ _
    c.in-Some.element c.in-Some.is c.next.ensures.steps in
    record {
      items = next_made seen (retagged tag) (retagged-append tag) es c.loop-element.yielded c.in-Some.element
          c.in-Some.element.now t [] (line_items seen c.loop-element.made) (line_items seen c.push_str.new.self)
          c.loop-element.invariant.items
          (c.in_ok-push_str.ensures.ok ∙ ap (λ l. line_items seen c.loop-element.made ++ l)
          (ap (λ bs. tagged (chars bs) tag) c.as_str.ensures ∙ element_retagged seen tag c.in-Some.element.now));
      joined = c.push_str.ensures.joined c.loop-element.invariant.joined;
    }

pub returns-clause-items : goal.returns-clause-items
returns-clause-items g c =
    let seen = g.T.EqualCopy.seen in
    let es = line_elements c.args.line.now in
    let t = YieldsList-end (YieldsList-from_slice es cc) c.loop-element.yielded _ c.loop-element.yielded_by _ _
    c.in-None.is c.next.ensures.steps in
    all_made seen (retagged (seen c.args.tag.now)) es c.loop-element.yielded t.1 []
    (line_items seen c.loop-element.made) c.loop-element.invariant.items
