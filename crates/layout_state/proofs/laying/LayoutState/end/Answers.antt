use Rattle.std.proofs.Common.{ap, ◌∙◌}
use Rattle.std.proofs.lemmas.Result.{on_ok_weaker}
use Rattle.block_renderer.specs.Seen.{marking}
use Rattle.render_values.specs.declared.info.RenderInfo.{RenderInfo}
use Rattle.layout_state.specs.Begins.{ends}
use Rattle.layout_state.specs.Seen.{laying_of}
use Rattle.layout_state.proofs.laying.LayoutState.end.Goals as goal

pub returns-in-Link-clause-done : goal.returns-in-Link-clause-done
unfolding ends
returns-in-Link-clause-done g c = on_ok_weaker c.end_link.result (λ h. λ tag p.
    ap (λ (i : RenderInfo). ends (marking g.D.TextDecorator.view tag) i (laying_of g.D.Annotation.EqualCopy.seen
    g.D.TextDecorator.view.held
    c.args.self.now)) c.in-Link.is
    ∙ h tag p) c.end_link.ensures.done

pub returns-in-Link-clause-narrow : goal.returns-in-Link-clause-narrow
unfolding ends
returns-in-Link-clause-narrow g c = λ e. λ tag p.
    ap (λ (i : RenderInfo). ends (marking g.D.TextDecorator.view tag) i (laying_of g.D.Annotation.EqualCopy.seen
    g.D.TextDecorator.view.held
    c.args.self.now)) c.in-Link.is
    ∙ c.end_link.ensures.narrow e tag p

pub returns-in-Emphasis-clause-done : goal.returns-in-Emphasis-clause-done
unfolding ends
returns-in-Emphasis-clause-done g c = on_ok_weaker c.end_emphasis.result (λ h. λ tag p.
    ap (λ (i : RenderInfo). ends (marking g.D.TextDecorator.view tag) i (laying_of g.D.Annotation.EqualCopy.seen
    g.D.TextDecorator.view.held
    c.args.self.now)) c.in-Emphasis.is
    ∙ h tag p) c.end_emphasis.ensures.done

pub returns-in-Emphasis-clause-narrow : goal.returns-in-Emphasis-clause-narrow
unfolding ends
returns-in-Emphasis-clause-narrow g c = λ e. λ tag p.
    ap (λ (i : RenderInfo). ends (marking g.D.TextDecorator.view tag) i (laying_of g.D.Annotation.EqualCopy.seen
    g.D.TextDecorator.view.held
    c.args.self.now)) c.in-Emphasis.is
    ∙ c.end_emphasis.ensures.narrow e tag p

pub returns-in-Strong-clause-done : goal.returns-in-Strong-clause-done
unfolding ends
returns-in-Strong-clause-done g c = on_ok_weaker c.end_strong.result (λ h. λ tag p.
    ap (λ (i : RenderInfo). ends (marking g.D.TextDecorator.view tag) i (laying_of g.D.Annotation.EqualCopy.seen
    g.D.TextDecorator.view.held
    c.args.self.now)) c.in-Strong.is
    ∙ h tag p) c.end_strong.ensures.done

pub returns-in-Strong-clause-narrow : goal.returns-in-Strong-clause-narrow
unfolding ends
returns-in-Strong-clause-narrow g c = λ e. λ tag p.
    ap (λ (i : RenderInfo). ends (marking g.D.TextDecorator.view tag) i (laying_of g.D.Annotation.EqualCopy.seen
    g.D.TextDecorator.view.held
    c.args.self.now)) c.in-Strong.is
    ∙ c.end_strong.ensures.narrow e tag p

pub returns-in-Strikeout-clause-done : goal.returns-in-Strikeout-clause-done
unfolding ends
returns-in-Strikeout-clause-done g c = on_ok_weaker c.end_strikeout.result (λ h. λ tag p.
    ap (λ (i : RenderInfo). ends (marking g.D.TextDecorator.view tag) i (laying_of g.D.Annotation.EqualCopy.seen
    g.D.TextDecorator.view.held
    c.args.self.now)) c.in-Strikeout.is
    ∙ h tag p) c.end_strikeout.ensures.done

pub returns-in-Strikeout-clause-narrow : goal.returns-in-Strikeout-clause-narrow
unfolding ends
returns-in-Strikeout-clause-narrow g c = λ e. λ tag p.
    ap (λ (i : RenderInfo). ends (marking g.D.TextDecorator.view tag) i (laying_of g.D.Annotation.EqualCopy.seen
    g.D.TextDecorator.view.held
    c.args.self.now)) c.in-Strikeout.is
    ∙ c.end_strikeout.ensures.narrow e tag p

pub returns-in-Code-clause-done : goal.returns-in-Code-clause-done
unfolding ends
returns-in-Code-clause-done g c = on_ok_weaker c.end_code.result (λ h. λ tag p.
    ap (λ (i : RenderInfo). ends (marking g.D.TextDecorator.view tag) i (laying_of g.D.Annotation.EqualCopy.seen
    g.D.TextDecorator.view.held
    c.args.self.now)) c.in-Code.is
    ∙ h tag p) c.end_code.ensures.done

pub returns-in-Code-clause-narrow : goal.returns-in-Code-clause-narrow
unfolding ends
returns-in-Code-clause-narrow g c = λ e. λ tag p.
    ap (λ (i : RenderInfo). ends (marking g.D.TextDecorator.view tag) i (laying_of g.D.Annotation.EqualCopy.seen
    g.D.TextDecorator.view.held
    c.args.self.now)) c.in-Code.is
    ∙ c.end_code.ensures.narrow e tag p

pub returns-in-Superscript-clause-done : goal.returns-in-Superscript-clause-done
unfolding ends
returns-in-Superscript-clause-done g c = on_ok_weaker c.end_superscript.result (λ h. λ tag p.
    ap (λ (i : RenderInfo). ends (marking g.D.TextDecorator.view tag) i (laying_of g.D.Annotation.EqualCopy.seen
    g.D.TextDecorator.view.held
    c.args.self.now)) c.in-Superscript.is
    ∙ h tag p) c.end_superscript.ensures.done

pub returns-in-Superscript-clause-narrow : goal.returns-in-Superscript-clause-narrow
unfolding ends
returns-in-Superscript-clause-narrow g c = λ e. λ tag p.
    ap (λ (i : RenderInfo). ends (marking g.D.TextDecorator.view tag) i (laying_of g.D.Annotation.EqualCopy.seen
    g.D.TextDecorator.view.held
    c.args.self.now)) c.in-Superscript.is
    ∙ c.end_superscript.ensures.narrow e tag p

pub returns-in-Block-clause-done : goal.returns-in-Block-clause-done
unfolding ends
returns-in-Block-clause-done g c = on_ok_weaker c.finish_block.result (λ h. λ tag p.
    ap (λ (i : RenderInfo). ends (marking g.D.TextDecorator.view tag) i (laying_of g.D.Annotation.EqualCopy.seen
    g.D.TextDecorator.view.held
    c.args.self.now)) c.in-Block.is
    ∙ h tag p) c.finish_block.ensures.done

pub returns-in-Block-clause-narrow : goal.returns-in-Block-clause-narrow
unfolding ends
returns-in-Block-clause-narrow g c = λ e. λ tag p.
    ap (λ (i : RenderInfo). ends (marking g.D.TextDecorator.view tag) i (laying_of g.D.Annotation.EqualCopy.seen
    g.D.TextDecorator.view.held
    c.args.self.now)) c.in-Block.is
    ∙ c.finish_block.ensures.narrow e tag p

pub returns-in-Division-clause-done : goal.returns-in-Division-clause-done
unfolding ends
returns-in-Division-clause-done g c = on_ok_weaker c.end_line.result (λ h. λ tag p.
    ap (λ (i : RenderInfo). ends (marking g.D.TextDecorator.view tag) i (laying_of g.D.Annotation.EqualCopy.seen
    g.D.TextDecorator.view.held
    c.args.self.now)) c.in-Division.is
    ∙ h tag p) c.end_line.ensures.done

pub returns-in-Division-clause-narrow : goal.returns-in-Division-clause-narrow
unfolding ends
returns-in-Division-clause-narrow g c = λ e. λ tag p.
    ap (λ (i : RenderInfo). ends (marking g.D.TextDecorator.view tag) i (laying_of g.D.Annotation.EqualCopy.seen
    g.D.TextDecorator.view.held
    c.args.self.now)) c.in-Division.is
    ∙ c.end_line.ensures.narrow e tag p

pub returns-in-Heading-clause-done : goal.returns-in-Heading-clause-done
unfolding ends
returns-in-Heading-clause-done g c = on_ok_weaker c.finish_block-in-Heading.result (λ h. λ tag p.
    ap (λ (i : RenderInfo). ends (marking g.D.TextDecorator.view tag) i (laying_of g.D.Annotation.EqualCopy.seen
    g.D.TextDecorator.view.held
    c.args.self.now)) c.in-Heading.is
    ∙ h tag p) c.finish_block-in-Heading.ensures.done

pub returns-in-Heading-clause-narrow : goal.returns-in-Heading-clause-narrow
unfolding ends
returns-in-Heading-clause-narrow g c = λ e. λ tag p.
    ap (λ (i : RenderInfo). ends (marking g.D.TextDecorator.view tag) i (laying_of g.D.Annotation.EqualCopy.seen
    g.D.TextDecorator.view.held
    c.args.self.now)) c.in-Heading.is
    ∙ c.finish_block-in-Heading.ensures.narrow e tag p

pub returns-in-Quote-clause-done : goal.returns-in-Quote-clause-done
unfolding ends
returns-in-Quote-clause-done g c = on_ok_weaker c.finish_block-in-Quote.result (λ h. λ tag p.
    ap (λ (i : RenderInfo). ends (marking g.D.TextDecorator.view tag) i (laying_of g.D.Annotation.EqualCopy.seen
    g.D.TextDecorator.view.held
    c.args.self.now)) c.in-Quote.is
    ∙ h tag p) c.finish_block-in-Quote.ensures.done

pub returns-in-Quote-clause-narrow : goal.returns-in-Quote-clause-narrow
unfolding ends
returns-in-Quote-clause-narrow g c = λ e. λ tag p.
    ap (λ (i : RenderInfo). ends (marking g.D.TextDecorator.view tag) i (laying_of g.D.Annotation.EqualCopy.seen
    g.D.TextDecorator.view.held
    c.args.self.now)) c.in-Quote.is
    ∙ c.finish_block-in-Quote.ensures.narrow e tag p

pub returns-in-Preformatted-clause-done : goal.returns-in-Preformatted-clause-done
unfolding ends
returns-in-Preformatted-clause-done g c = on_ok_weaker c.end_preformatted.result (λ h. λ tag p.
    ap (λ (i : RenderInfo). ends (marking g.D.TextDecorator.view tag) i (laying_of g.D.Annotation.EqualCopy.seen
    g.D.TextDecorator.view.held
    c.args.self.now)) c.in-Preformatted.is
    ∙ h tag p) c.end_preformatted.ensures.done

pub returns-in-Preformatted-clause-narrow : goal.returns-in-Preformatted-clause-narrow
unfolding ends
returns-in-Preformatted-clause-narrow g c = λ e. λ tag p.
    ap (λ (i : RenderInfo). ends (marking g.D.TextDecorator.view tag) i (laying_of g.D.Annotation.EqualCopy.seen
    g.D.TextDecorator.view.held
    c.args.self.now)) c.in-Preformatted.is
    ∙ c.end_preformatted.ensures.narrow e tag p

pub returns-in-Term-clause-done : goal.returns-in-Term-clause-done
unfolding ends
returns-in-Term-clause-done g c = on_ok_weaker c.end_term.result (λ h. λ tag p.
    ap (λ (i : RenderInfo). ends (marking g.D.TextDecorator.view tag) i (laying_of g.D.Annotation.EqualCopy.seen
    g.D.TextDecorator.view.held
    c.args.self.now)) c.in-Term.is
    ∙ h tag p) c.end_term.ensures.done

pub returns-in-Term-clause-narrow : goal.returns-in-Term-clause-narrow
unfolding ends
returns-in-Term-clause-narrow g c = λ e. λ tag p.
    ap (λ (i : RenderInfo). ends (marking g.D.TextDecorator.view tag) i (laying_of g.D.Annotation.EqualCopy.seen
    g.D.TextDecorator.view.held
    c.args.self.now)) c.in-Term.is
    ∙ c.end_term.ensures.narrow e tag p
