use Rattle.std.proofs.Common.{◌≡◌, Err, ap, map, ◌∙◌}
use Rattle.std.proofs.lemmas.Result.{err_from_is_err_and}
use Rattle.block_renderer.specs.Seen.{tags_seen}
use Rattle.html_render_tree.specs.PageLines.{lines_text}
use Rattle.html_render_tree.specs.Settings.{setting_of}
use Rattle.text_lines.specs.Tagged.{line_items}
use Rattle.page_config.proofs.ReadingLemmas.{narrow_error, narrow_read, text_read}
use Rattle.page_config.proofs.config.Config.text_lines_from_read.Goals as goal
use Rattle.page_config.specs.Settings.{page_setting}
use Rattle.render_conversion.specs.declared.error.RenderError.TheVariants.{TooNarrow}

pub returns-clause-text : goal.returns-clause-text
returns-clause-text g c = text_read g.D.Annotation.EqualCopy.seen g.D.TextDecorator.view
    (page_setting g.D.TextDecorator.view c.args.self) c.args.width
    (g.R.ByteReader.remaining c.args.input.now) c.in_ok-rendering.tree
    (setting_of g.D.TextDecorator.view c.in_ok-rendering.rendering)
    (lines_text (map (line_items (tags_seen g.D.Annotation.EqualCopy.seen)) c.in_ok-render_to_text_lines.field-0.items))
    c.in_ok-rendering.ensures.tree
    c.in_ok-rendering.ensures.rendering c.in_ok-rendering.ensures.some c.in_ok-render_to_text_lines.ensures.wide
    c.in_ok-render_to_text_lines.ensures.text

pub returns-clause-within : goal.returns-clause-within
returns-clause-within g c = λ tag p steady off wraps wide. c.in_ok-render_to_text_lines.ensures.within tag p steady
    c.in_ok-rendering.ensures.numbered
    (ap (λ s. s.options.allow_width_overflow) c.in_ok-rendering.ensures.rendering ∙ off)
    (ap (λ s. s.options.wrap_links) c.in_ok-rendering.ensures.rendering ∙ wraps) wide

pub returns-in_err-render_to_text_lines-clause-narrow : goal.returns-in_err-render_to_text_lines-clause-narrow
returns-in_err-render_to_text_lines-clause-narrow g c = λ e.
    let q = err_from_is_err_and c.from_residual-in_err-render_to_text_lines.result
    c.from_residual-in_err-render_to_text_lines.ensures.1 in
    let same : c.in_err-render_to_text_lines.field-0.0 ≡ TooNarrow =
    narrow_error c.in_err-render_to_text_lines.field-0.0 (cc (q.1, q.2, e)) in
    narrow_read g.D.Annotation.EqualCopy.seen g.D.TextDecorator.view
    (page_setting g.D.TextDecorator.view c.args.self) c.args.width
    (g.R.ByteReader.remaining c.args.input.now) c.in_ok-rendering.tree
    (setting_of g.D.TextDecorator.view c.in_ok-rendering.rendering) c.in_ok-rendering.ensures.tree
    c.in_ok-rendering.ensures.rendering c.in_ok-rendering.ensures.some
    (c.in_err-render_to_text_lines.ensures.narrow (ap Err same))
