use Rattle.std.proofs.Common.{inr, sym, ap, ◌∙◌}
use Rattle.block_renderer.specs.Seen.{marking}
use Rattle.html_render_tree.specs.PageLines.{laid_as}
use Rattle.html_render_tree.specs.Settings.{setting_of}
use Rattle.html_render_tree.proofs.LineLemmas.{by_decorator, if_ok_by}
use Rattle.html_render_tree.proofs.config.RenderConfig.laid.Goals as goal

pub returns-clause-laid : goal.returns-clause-laid
returns-clause-laid g c = if_ok_by _ _ c.laid.result (λ text h. λ tag p.
    ap (λ h. laid_as c.args.keeps (marking g.D.TextDecorator.view tag)
    (by_decorator h (setting_of g.D.TextDecorator.view c.args.self.now)) c.args.width
    c.args.tree.now) (sym c.in_ok-decorator.ensures) ∙ h tag p) c.laid.ensures.laid

pub returns-clause-narrow : goal.returns-clause-narrow
returns-clause-narrow g c = λ e. inr (λ tag p.
    ap (λ h. laid_as c.args.keeps (marking g.D.TextDecorator.view tag)
    (by_decorator h (setting_of g.D.TextDecorator.view c.args.self.now)) c.args.width
    c.args.tree.now) (sym c.in_ok-decorator.ensures) ∙ c.laid.ensures.narrow e tag p)
