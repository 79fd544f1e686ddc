use Rattle.std.proofs.Common.{ℕ, List, ap, chars, sym, ◌∙◌}
use Rattle.std.proofs.lemmas.Result.{on_ok_weaker}
use Rattle.block_renderer.specs.Seen.{marking}
use Rattle.block_trait.specs.Calls.{adds_image, adds_text}
use Rattle.render_values.specs.declared.info.RenderInfo.{RenderInfo}
use Rattle.layout_state.specs.Begins.{begins}
use Rattle.layout_state.specs.LayoutState.{begins_link, says}
use Rattle.layout_state.specs.Seen.{laying_of}
use Rattle.layout_state.proofs.laying.LayoutState.begin.Goals as goal

pub returns-in-Break-clause-done : goal.returns-in-Break-clause-done
unfolding begins
returns-in-Break-clause-done g c = on_ok_weaker c.break_line.result (λ h. λ tag p.
    ap (λ (i : RenderInfo). begins (marking g.D.TextDecorator.view tag) i (laying_of g.D.Annotation.EqualCopy.seen
    g.D.TextDecorator.view.held
    c.args.self.now)) c.in-Break.is
    ∙ h tag p) c.break_line.ensures.done

pub returns-in-Break-clause-narrow : goal.returns-in-Break-clause-narrow
unfolding begins
returns-in-Break-clause-narrow g c = λ e. λ tag p.
    ap (λ (i : RenderInfo). begins (marking g.D.TextDecorator.view tag) i (laying_of g.D.Annotation.EqualCopy.seen
    g.D.TextDecorator.view.held
    c.args.self.now)) c.in-Break.is
    ∙ c.break_line.ensures.narrow e tag p

pub returns-in-Rule-clause-done : goal.returns-in-Rule-clause-done
unfolding begins
returns-in-Rule-clause-done g c = on_ok_weaker c.add_rule.result (λ h. λ tag p.
    ap (λ (i : RenderInfo). begins (marking g.D.TextDecorator.view tag) i (laying_of g.D.Annotation.EqualCopy.seen
    g.D.TextDecorator.view.held
    c.args.self.now)) c.in-Rule.is
    ∙ h tag p) c.add_rule.ensures.done

pub returns-in-Rule-clause-narrow : goal.returns-in-Rule-clause-narrow
unfolding begins
returns-in-Rule-clause-narrow g c = λ e. λ tag p.
    ap (λ (i : RenderInfo). begins (marking g.D.TextDecorator.view tag) i (laying_of g.D.Annotation.EqualCopy.seen
    g.D.TextDecorator.view.held
    c.args.self.now)) c.in-Rule.is
    ∙ c.add_rule.ensures.narrow e tag p

pub returns-in-Emphasis-clause-done : goal.returns-in-Emphasis-clause-done
unfolding begins
returns-in-Emphasis-clause-done g c = on_ok_weaker c.start_emphasis.result (λ h. λ tag p.
    ap (λ (i : RenderInfo). begins (marking g.D.TextDecorator.view tag) i (laying_of g.D.Annotation.EqualCopy.seen
    g.D.TextDecorator.view.held
    c.args.self.now)) c.in-Emphasis.is
    ∙ h tag p) c.start_emphasis.ensures.done

pub returns-in-Emphasis-clause-narrow : goal.returns-in-Emphasis-clause-narrow
unfolding begins
returns-in-Emphasis-clause-narrow g c = λ e. λ tag p.
    ap (λ (i : RenderInfo). begins (marking g.D.TextDecorator.view tag) i (laying_of g.D.Annotation.EqualCopy.seen
    g.D.TextDecorator.view.held
    c.args.self.now)) c.in-Emphasis.is
    ∙ c.start_emphasis.ensures.narrow e tag p

pub returns-in-Strong-clause-done : goal.returns-in-Strong-clause-done
unfolding begins
returns-in-Strong-clause-done g c = on_ok_weaker c.start_strong.result (λ h. λ tag p.
    ap (λ (i : RenderInfo). begins (marking g.D.TextDecorator.view tag) i (laying_of g.D.Annotation.EqualCopy.seen
    g.D.TextDecorator.view.held
    c.args.self.now)) c.in-Strong.is
    ∙ h tag p) c.start_strong.ensures.done

pub returns-in-Strong-clause-narrow : goal.returns-in-Strong-clause-narrow
unfolding begins
returns-in-Strong-clause-narrow g c = λ e. λ tag p.
    ap (λ (i : RenderInfo). begins (marking g.D.TextDecorator.view tag) i (laying_of g.D.Annotation.EqualCopy.seen
    g.D.TextDecorator.view.held
    c.args.self.now)) c.in-Strong.is
    ∙ c.start_strong.ensures.narrow e tag p

pub returns-in-Strikeout-clause-done : goal.returns-in-Strikeout-clause-done
unfolding begins
returns-in-Strikeout-clause-done g c = on_ok_weaker c.start_strikeout.result (λ h. λ tag p.
    ap (λ (i : RenderInfo). begins (marking g.D.TextDecorator.view tag) i (laying_of g.D.Annotation.EqualCopy.seen
    g.D.TextDecorator.view.held
    c.args.self.now)) c.in-Strikeout.is
    ∙ h tag p) c.start_strikeout.ensures.done

pub returns-in-Strikeout-clause-narrow : goal.returns-in-Strikeout-clause-narrow
unfolding begins
returns-in-Strikeout-clause-narrow g c = λ e. λ tag p.
    ap (λ (i : RenderInfo). begins (marking g.D.TextDecorator.view tag) i (laying_of g.D.Annotation.EqualCopy.seen
    g.D.TextDecorator.view.held
    c.args.self.now)) c.in-Strikeout.is
    ∙ c.start_strikeout.ensures.narrow e tag p

pub returns-in-Code-clause-done : goal.returns-in-Code-clause-done
unfolding begins
returns-in-Code-clause-done g c = on_ok_weaker c.start_code.result (λ h. λ tag p.
    ap (λ (i : RenderInfo). begins (marking g.D.TextDecorator.view tag) i (laying_of g.D.Annotation.EqualCopy.seen
    g.D.TextDecorator.view.held
    c.args.self.now)) c.in-Code.is
    ∙ h tag p) c.start_code.ensures.done

pub returns-in-Code-clause-narrow : goal.returns-in-Code-clause-narrow
unfolding begins
returns-in-Code-clause-narrow g c = λ e. λ tag p.
    ap (λ (i : RenderInfo). begins (marking g.D.TextDecorator.view tag) i (laying_of g.D.Annotation.EqualCopy.seen
    g.D.TextDecorator.view.held
    c.args.self.now)) c.in-Code.is
    ∙ c.start_code.ensures.narrow e tag p

pub returns-in-Superscript-clause-done : goal.returns-in-Superscript-clause-done
unfolding begins
returns-in-Superscript-clause-done g c = on_ok_weaker c.start_superscript.result (λ h. λ tag p.
    ap (λ (i : RenderInfo). begins (marking g.D.TextDecorator.view tag) i (laying_of g.D.Annotation.EqualCopy.seen
    g.D.TextDecorator.view.held
    c.args.self.now)) c.in-Superscript.is
    ∙ h tag p) c.start_superscript.ensures.done

pub returns-in-Superscript-clause-narrow : goal.returns-in-Superscript-clause-narrow
unfolding begins
returns-in-Superscript-clause-narrow g c = λ e. λ tag p.
    ap (λ (i : RenderInfo). begins (marking g.D.TextDecorator.view tag) i (laying_of g.D.Annotation.EqualCopy.seen
    g.D.TextDecorator.view.held
    c.args.self.now)) c.in-Superscript.is
    ∙ c.start_superscript.ensures.narrow e tag p

pub returns-in-Block-clause-done : goal.returns-in-Block-clause-done
unfolding begins
returns-in-Block-clause-done g c = on_ok_weaker c.start_block.result (λ h. λ tag p.
    ap (λ (i : RenderInfo). begins (marking g.D.TextDecorator.view tag) i (laying_of g.D.Annotation.EqualCopy.seen
    g.D.TextDecorator.view.held
    c.args.self.now)) c.in-Block.is
    ∙ h tag p) c.start_block.ensures.done

pub returns-in-Block-clause-narrow : goal.returns-in-Block-clause-narrow
unfolding begins
returns-in-Block-clause-narrow g c = λ e. λ tag p.
    ap (λ (i : RenderInfo). begins (marking g.D.TextDecorator.view tag) i (laying_of g.D.Annotation.EqualCopy.seen
    g.D.TextDecorator.view.held
    c.args.self.now)) c.in-Block.is
    ∙ c.start_block.ensures.narrow e tag p

pub returns-in-Division-clause-done : goal.returns-in-Division-clause-done
unfolding begins
returns-in-Division-clause-done g c = on_ok_weaker c.end_line.result (λ h. λ tag p.
    ap (λ (i : RenderInfo). begins (marking g.D.TextDecorator.view tag) i (laying_of g.D.Annotation.EqualCopy.seen
    g.D.TextDecorator.view.held
    c.args.self.now)) c.in-Division.is
    ∙ h tag p) c.end_line.ensures.done

pub returns-in-Division-clause-narrow : goal.returns-in-Division-clause-narrow
unfolding begins
returns-in-Division-clause-narrow g c = λ e. λ tag p.
    ap (λ (i : RenderInfo). begins (marking g.D.TextDecorator.view tag) i (laying_of g.D.Annotation.EqualCopy.seen
    g.D.TextDecorator.view.held
    c.args.self.now)) c.in-Division.is
    ∙ c.end_line.ensures.narrow e tag p

pub returns-in-Heading-clause-done : goal.returns-in-Heading-clause-done
unfolding begins
returns-in-Heading-clause-done g c = on_ok_weaker c.start_block-in-Heading.result (λ h. λ tag p.
    ap (λ (i : RenderInfo). begins (marking g.D.TextDecorator.view tag) i (laying_of g.D.Annotation.EqualCopy.seen
    g.D.TextDecorator.view.held
    c.args.self.now)) c.in-Heading.is
    ∙ h tag p) c.start_block-in-Heading.ensures.done

pub returns-in-Heading-clause-narrow : goal.returns-in-Heading-clause-narrow
unfolding begins
returns-in-Heading-clause-narrow g c = λ e. λ tag p.
    ap (λ (i : RenderInfo). begins (marking g.D.TextDecorator.view tag) i (laying_of g.D.Annotation.EqualCopy.seen
    g.D.TextDecorator.view.held
    c.args.self.now)) c.in-Heading.is
    ∙ c.start_block-in-Heading.ensures.narrow e tag p

pub returns-in-Quote-clause-done : goal.returns-in-Quote-clause-done
unfolding begins
returns-in-Quote-clause-done g c = on_ok_weaker c.start_block-in-Quote.result (λ h. λ tag p.
    ap (λ (i : RenderInfo). begins (marking g.D.TextDecorator.view tag) i (laying_of g.D.Annotation.EqualCopy.seen
    g.D.TextDecorator.view.held
    c.args.self.now)) c.in-Quote.is
    ∙ h tag p) c.start_block-in-Quote.ensures.done

pub returns-in-Quote-clause-narrow : goal.returns-in-Quote-clause-narrow
unfolding begins
returns-in-Quote-clause-narrow g c = λ e. λ tag p.
    ap (λ (i : RenderInfo). begins (marking g.D.TextDecorator.view tag) i (laying_of g.D.Annotation.EqualCopy.seen
    g.D.TextDecorator.view.held
    c.args.self.now)) c.in-Quote.is
    ∙ c.start_block-in-Quote.ensures.narrow e tag p

pub returns-in-Preformatted-clause-done : goal.returns-in-Preformatted-clause-done
unfolding begins
returns-in-Preformatted-clause-done g c = on_ok_weaker c.begin_preformatted.result (λ h. λ tag p.
    ap (λ (i : RenderInfo). begins (marking g.D.TextDecorator.view tag) i (laying_of g.D.Annotation.EqualCopy.seen
    g.D.TextDecorator.view.held
    c.args.self.now)) c.in-Preformatted.is
    ∙ h tag p) c.begin_preformatted.ensures.done

pub returns-in-Preformatted-clause-narrow : goal.returns-in-Preformatted-clause-narrow
unfolding begins
returns-in-Preformatted-clause-narrow g c = λ e. λ tag p.
    ap (λ (i : RenderInfo). begins (marking g.D.TextDecorator.view tag) i (laying_of g.D.Annotation.EqualCopy.seen
    g.D.TextDecorator.view.held
    c.args.self.now)) c.in-Preformatted.is
    ∙ c.begin_preformatted.ensures.narrow e tag p

pub returns-in-Bullets-clause-done : goal.returns-in-Bullets-clause-done
unfolding begins
returns-in-Bullets-clause-done g c = on_ok_weaker c.start_block-in-Bullets.result (λ h. λ tag p.
    ap (λ (i : RenderInfo). begins (marking g.D.TextDecorator.view tag) i (laying_of g.D.Annotation.EqualCopy.seen
    g.D.TextDecorator.view.held
    c.args.self.now)) c.in-Bullets.is
    ∙ h tag p) c.start_block-in-Bullets.ensures.done

pub returns-in-Bullets-clause-narrow : goal.returns-in-Bullets-clause-narrow
unfolding begins
returns-in-Bullets-clause-narrow g c = λ e. λ tag p.
    ap (λ (i : RenderInfo). begins (marking g.D.TextDecorator.view tag) i (laying_of g.D.Annotation.EqualCopy.seen
    g.D.TextDecorator.view.held
    c.args.self.now)) c.in-Bullets.is
    ∙ c.start_block-in-Bullets.ensures.narrow e tag p

pub returns-in-Numbers-clause-done : goal.returns-in-Numbers-clause-done
unfolding begins
returns-in-Numbers-clause-done g c = on_ok_weaker c.start_block-in-Numbers.result (λ h. λ tag p.
    ap (λ (i : RenderInfo). begins (marking g.D.TextDecorator.view tag) i (laying_of g.D.Annotation.EqualCopy.seen
    g.D.TextDecorator.view.held
    c.args.self.now)) c.in-Numbers.is
    ∙ h tag p) c.start_block-in-Numbers.ensures.done

pub returns-in-Numbers-clause-narrow : goal.returns-in-Numbers-clause-narrow
unfolding begins
returns-in-Numbers-clause-narrow g c = λ e. λ tag p.
    ap (λ (i : RenderInfo). begins (marking g.D.TextDecorator.view tag) i (laying_of g.D.Annotation.EqualCopy.seen
    g.D.TextDecorator.view.held
    c.args.self.now)) c.in-Numbers.is
    ∙ c.start_block-in-Numbers.ensures.narrow e tag p

pub returns-in-Descriptions-clause-done : goal.returns-in-Descriptions-clause-done
unfolding begins
returns-in-Descriptions-clause-done g c = on_ok_weaker c.start_block-in-Descriptions.result (λ h. λ tag p.
    ap (λ (i : RenderInfo). begins (marking g.D.TextDecorator.view tag) i (laying_of g.D.Annotation.EqualCopy.seen
    g.D.TextDecorator.view.held
    c.args.self.now)) c.in-Descriptions.is
    ∙ h tag p) c.start_block-in-Descriptions.ensures.done

pub returns-in-Descriptions-clause-narrow : goal.returns-in-Descriptions-clause-narrow
unfolding begins
returns-in-Descriptions-clause-narrow g c = λ e. λ tag p.
    ap (λ (i : RenderInfo). begins (marking g.D.TextDecorator.view tag) i (laying_of g.D.Annotation.EqualCopy.seen
    g.D.TextDecorator.view.held
    c.args.self.now)) c.in-Descriptions.is
    ∙ c.start_block-in-Descriptions.ensures.narrow e tag p

pub returns-in-Term-clause-done : goal.returns-in-Term-clause-done
unfolding begins
returns-in-Term-clause-done g c = on_ok_weaker c.begin_term.result (λ h. λ tag p.
    ap (λ (i : RenderInfo). begins (marking g.D.TextDecorator.view tag) i (laying_of g.D.Annotation.EqualCopy.seen
    g.D.TextDecorator.view.held
    c.args.self.now)) c.in-Term.is
    ∙ h tag p) c.begin_term.ensures.done

pub returns-in-Term-clause-narrow : goal.returns-in-Term-clause-narrow
unfolding begins
returns-in-Term-clause-narrow g c = λ e. λ tag p.
    ap (λ (i : RenderInfo). begins (marking g.D.TextDecorator.view tag) i (laying_of g.D.Annotation.EqualCopy.seen
    g.D.TextDecorator.view.held
    c.args.self.now)) c.in-Term.is
    ∙ c.begin_term.ensures.narrow e tag p

pub returns-in-Text-clause-done : goal.returns-in-Text-clause-done
unfolding begins
returns-in-Text-clause-done g c = on_ok_weaker c.add_text.result (λ h. λ tag p.
    ap (λ (i : RenderInfo). begins (marking g.D.TextDecorator.view tag) i (laying_of g.D.Annotation.EqualCopy.seen
    g.D.TextDecorator.view.held
    c.args.self.now)) c.in-Text.is
    ∙ (ap (λ (cs : List ℕ). says (marking g.D.TextDecorator.view tag) (adds_text cs) (laying_of
    g.D.Annotation.EqualCopy.seen
    g.D.TextDecorator.view.held c.args.self.now)) (sym c.as_str.ensures)
    ∙ h tag p)) c.add_text.ensures.done

pub returns-in-Text-clause-narrow : goal.returns-in-Text-clause-narrow
unfolding begins
returns-in-Text-clause-narrow g c = λ e. λ tag p.
    ap (λ (i : RenderInfo). begins (marking g.D.TextDecorator.view tag) i (laying_of g.D.Annotation.EqualCopy.seen
    g.D.TextDecorator.view.held
    c.args.self.now)) c.in-Text.is
    ∙ (ap (λ (cs : List ℕ). says (marking g.D.TextDecorator.view tag) (adds_text cs) (laying_of
    g.D.Annotation.EqualCopy.seen
    g.D.TextDecorator.view.held c.args.self.now)) (sym c.as_str.ensures)
    ∙ c.add_text.ensures.narrow e tag p)

pub returns-in-Link-clause-done : goal.returns-in-Link-clause-done
unfolding begins
returns-in-Link-clause-done g c = on_ok_weaker c.start_link.result (λ h. λ tag p.
    ap (λ (i : RenderInfo). begins (marking g.D.TextDecorator.view tag) i (laying_of g.D.Annotation.EqualCopy.seen
    g.D.TextDecorator.view.held
    c.args.self.now)) c.in-Link.is
    ∙ (ap (λ (cs : List ℕ). begins_link (marking g.D.TextDecorator.view tag) cs (laying_of g.D.Annotation.EqualCopy.seen
    g.D.TextDecorator.view.held
    c.args.self.now)) (sym c.as_str-in-Link.ensures)
    ∙ h tag p)) c.start_link.ensures.done

pub returns-in-Link-clause-narrow : goal.returns-in-Link-clause-narrow
unfolding begins
returns-in-Link-clause-narrow g c = λ e. λ tag p.
    ap (λ (i : RenderInfo). begins (marking g.D.TextDecorator.view tag) i (laying_of g.D.Annotation.EqualCopy.seen
    g.D.TextDecorator.view.held
    c.args.self.now)) c.in-Link.is
    ∙ (ap (λ (cs : List ℕ). begins_link (marking g.D.TextDecorator.view tag) cs (laying_of g.D.Annotation.EqualCopy.seen
    g.D.TextDecorator.view.held
    c.args.self.now)) (sym c.as_str-in-Link.ensures)
    ∙ c.start_link.ensures.narrow e tag p)

pub returns-in-Image-clause-done : goal.returns-in-Image-clause-done
unfolding begins
returns-in-Image-clause-done g c = on_ok_weaker c.add_image.result (λ h. λ tag p.
    ap (λ (i : RenderInfo). begins (marking g.D.TextDecorator.view tag) i (laying_of g.D.Annotation.EqualCopy.seen
    g.D.TextDecorator.view.held
    c.args.self.now)) c.in-Image.is
    ∙ ((ap (λ (cs : List ℕ). says (marking g.D.TextDecorator.view tag) (adds_image cs c.in-Image.title) (laying_of
    g.D.Annotation.EqualCopy.seen g.D.TextDecorator.view.held c.args.self.now)) (sym c.as_str-in-Image.ensures)
    ∙ ap (λ (cs : List ℕ). says (marking g.D.TextDecorator.view tag) (adds_image (chars c.as_str-in-Image.result.now)
    cs) (laying_of
    g.D.Annotation.EqualCopy.seen g.D.TextDecorator.view.held c.args.self.now)) (sym c.as_str-in-Image-2.ensures))
    ∙ h tag p)) c.add_image.ensures.done

pub returns-in-Image-clause-narrow : goal.returns-in-Image-clause-narrow
unfolding begins
returns-in-Image-clause-narrow g c = λ e. λ tag p.
    ap (λ (i : RenderInfo). begins (marking g.D.TextDecorator.view tag) i (laying_of g.D.Annotation.EqualCopy.seen
    g.D.TextDecorator.view.held
    c.args.self.now)) c.in-Image.is
    ∙ ((ap (λ (cs : List ℕ). says (marking g.D.TextDecorator.view tag) (adds_image cs c.in-Image.title) (laying_of
    g.D.Annotation.EqualCopy.seen g.D.TextDecorator.view.held c.args.self.now)) (sym c.as_str-in-Image.ensures)
    ∙ ap (λ (cs : List ℕ). says (marking g.D.TextDecorator.view tag) (adds_image (chars c.as_str-in-Image.result.now)
    cs) (laying_of
    g.D.Annotation.EqualCopy.seen g.D.TextDecorator.view.held c.args.self.now)) (sym c.as_str-in-Image-2.ensures))
    ∙ c.add_image.ensures.narrow e tag p)
