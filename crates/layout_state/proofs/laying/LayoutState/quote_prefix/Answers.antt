use Rattle.block_renderer.specs.Seen.{marking, sub_of}
use Rattle.text_decorators.specs.Marks.{quote}
use Rattle.layout_state.specs.Seen.{laying_of}
use Rattle.layout_state.proofs.CallLemmas.{if_ok_by, marked}
use Rattle.layout_state.proofs.laying.LayoutState.quote_prefix.Goals as goal

pub returns-clause-text : goal.returns-clause-text
returns-clause-text g c = if_ok_by _ _ c.quote_prefix.result (λ s h. λ tag.
    marked (marking g.D.TextDecorator.view tag) quote (laying_of g.D.Annotation.EqualCopy.seen
    g.D.TextDecorator.view.held c.args.self.now)
    (sub_of g.D.Annotation.EqualCopy.seen g.D.TextDecorator.view.held c.current_mut.result.now) _
    c.current_mut.ensures.sub h)
    c.quote_prefix.ensures.answer.answer
