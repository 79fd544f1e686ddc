use Rattle.std.proofs.Common.{◌≡◌, Bool, Some, ap, if◌then◌else◌, sym, true, ◌∙◌}
use Rattle.std.proofs.lemmas.Result.{on_ok_weaker}
use Rattle.block_renderer.specs.Seen.{marking}
use Rattle.block_trait.specs.Calls.{adds_border}
use Rattle.block_trait.specs.Renderers.{Sub}
use Rattle.layout_state.specs.LayoutState.{says}
use Rattle.layout_state.specs.Seen.{laying_of}
use Rattle.layout_state.proofs.laying.LayoutState.add_rule_border.Goals as goal

pub returns-then-options-clause-done : goal.returns-then-options-clause-done
returns-then-options-clause-done g c =
    let l = laying_of g.D.Annotation.EqualCopy.seen g.D.TextDecorator.view.held c.args.self.now in
    let drawn : l.parts.current.options.draw_borders ≡ true =
    sym (ap (λ (s : Sub _ _). s.options.draw_borders) c.current.ensures.sub)
    ∙ sym (ap (λ (o : _). o.draw_borders) c.options.ensures) ∙ c.if-options.true in
    on_ok_weaker c.add_border.result (λ h. λ tag p.
    ap (λ (b : Bool). (if b then says (marking g.D.TextDecorator.view tag) adds_border else Some) l) drawn ∙ h tag p)
    c.add_border.ensures.done
