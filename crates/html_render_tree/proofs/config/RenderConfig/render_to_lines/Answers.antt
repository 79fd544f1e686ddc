use Rattle.std.proofs.Common.{◌≡◌, Err, None, Some, ap, inr, map}
use Rattle.std.proofs.lemmas.Result.{err_from_is_err_and}
use Rattle.std.specs.Option.{option_map}
use Rattle.block_renderer.specs.Seen.{sub_of, tags_seen}
use Rattle.render_conversion.specs.declared.error.RenderError.TheVariants.{TooNarrow}
use Rattle.text_lines.specs.Tagged.{line_items}
use Rattle.text_borders.specs.Lines.{line_shown}
use Rattle.html_render_tree.specs.PageLines.{renderer_lines}
use Rattle.html_render_tree.specs.Settings.{setting_of}
use Rattle.html_render_tree.proofs.BareLemmas.{or_else}
use Rattle.html_render_tree.proofs.OptionLemmas.{bound_as, none_bound}
use Rattle.html_render_tree.proofs.PageLemmas.{never_so_narrow}
use Rattle.html_render_tree.proofs.config.RenderConfig.render_to_lines.Goals as goal

pub returns-in-Ok-clause-lines : goal.returns-in-Ok-clause-lines
returns-in-Ok-clause-lines g c = λ tag p.
    bound_as renderer_lines _ (sub_of g.D.Annotation.EqualCopy.seen g.D.TextDecorator.view.held c.in_ok-sub.sub)
    (Some (map (line_items (tags_seen g.D.Annotation.EqualCopy.seen)) c.in-Ok.lines.items))
    (c.in_ok-sub.ensures.closed tag p) c.in-Ok.ensures.lines

pub returns-clause-narrow : goal.returns-clause-narrow
returns-clause-narrow g c = λ e.
    let narrow : c.refusal.result ≡ TooNarrow = cc e in
    inr (λ tag p.
    bound_as renderer_lines _ (sub_of g.D.Annotation.EqualCopy.seen g.D.TextDecorator.view.held c.in_ok-sub.sub) None
    (c.in_ok-sub.ensures.closed tag p)
    (ap (option_map (map line_shown)) (c.in-Err.ensures.narrow (ap Err (c.refusal.ensures.narrow narrow)))))

pub returns-in_err-sub-clause-narrow : goal.returns-in_err-sub-clause-narrow
returns-in_err-sub-clause-narrow g c = λ e.
    let q = err_from_is_err_and c.from_residual.result c.from_residual.ensures.1 in
    let same : c.in_err-sub.field-0.0 ≡ TooNarrow = cc (q.1, q.2, e) in
    or_else (λ never. λ tag p. none_bound renderer_lines _ (never tag p)) (c.in_err-sub.ensures.narrow (ap Err same))

pub returns-in-Ok-clause-within : goal.returns-in-Ok-clause-within
returns-in-Ok-clause-within g c = λ tag p steady numbered off wraps wide. c.pages_keep_the_width.ensures tag
    (setting_of g.D.TextDecorator.view c.args.self.now) c.args.width c.args.tree
    (map (line_items (tags_seen g.D.Annotation.EqualCopy.seen)) c.in-Ok.lines.items) steady numbered off wraps wide
    (bound_as renderer_lines _ (sub_of g.D.Annotation.EqualCopy.seen g.D.TextDecorator.view.held c.in_ok-sub.sub) (Some
    _)
    (c.in_ok-sub.ensures.closed tag p) c.in-Ok.ensures.lines)

pub returns-clause-roomy : goal.returns-clause-roomy
returns-clause-roomy g c = λ tag p on wide e.
    let narrow : c.refusal.result ≡ TooNarrow = cc e in
    c.pages_with_room_are_never_too_narrow.ensures tag
    (setting_of g.D.TextDecorator.view c.args.self.now) c.args.width c.args.tree on
    (bound_as renderer_lines _ (sub_of g.D.Annotation.EqualCopy.seen g.D.TextDecorator.view.held c.in_ok-sub.sub) None
    (c.in_ok-sub.ensures.closed tag p)
    (ap (option_map (map line_shown)) (c.in-Err.ensures.narrow (ap Err (c.refusal.ensures.narrow narrow)))))

pub returns-in_err-sub-clause-roomy : goal.returns-in_err-sub-clause-roomy
returns-in_err-sub-clause-roomy g c = λ tag p on wide e.
    let q = err_from_is_err_and c.from_residual.result c.from_residual.ensures.1 in
    let same : c.in_err-sub.field-0.0 ≡ TooNarrow = cc (q.1, q.2, e) in
    never_so_narrow _ c.args.width (λ never. c.pages_with_room_are_never_too_narrow.ensures tag
    (setting_of g.D.TextDecorator.view c.args.self.now) c.args.width c.args.tree on
    (none_bound renderer_lines _ (never tag p))) wide (c.in_err-sub.ensures.narrow (ap Err same))
