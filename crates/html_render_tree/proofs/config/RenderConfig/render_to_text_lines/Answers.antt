use Rattle.std.proofs.Common.{◌≡◌, Err, ap, inr, map}
use Rattle.std.proofs.lemmas.Result.{err_from_is_err_and}
use Rattle.block_renderer.specs.Seen.{marking, sub_of, tags_seen}
use Rattle.render_conversion.specs.declared.error.RenderError.TheVariants.{TooNarrow}
use Rattle.text_lines.specs.Tagged.{line_items}
use Rattle.html_render_tree.specs.PageLines.{lines_text, renderer_lines}
use Rattle.html_render_tree.specs.Settings.{setting_of}
use Rattle.html_render_tree.proofs.BareLemmas.{TextLaws, lines_missing, or_else, printed_alike, text_shown}
use Rattle.html_render_tree.proofs.OptionLemmas.{none_bound}
use Rattle.html_render_tree.proofs.PageLemmas.{never_so_narrow}
use Rattle.html_render_tree.proofs.config.RenderConfig.render_to_text_lines.Goals as goal

pub returns-in-Ok-clause-text : goal.returns-in-Ok-clause-text
returns-in-Ok-clause-text g c = λ tag p.
    let d = g.D.TextDecorator in
    let seen = g.D.Annotation.EqualCopy.seen in
    let m = marking d.view tag in
    let laws : TextLaws d.Held g.D.Annotation.EqualCopy.Seen = record {
      lines = λ s. c.annotations_change_no_text.ensures.lines s;
      text = λ s. c.annotations_change_no_text.ensures.text s;
    } in
    let shown = map (line_items (tags_seen seen)) c.in-Ok.lines.items in
    printed_alike m laws seen d.view.closes (setting_of d.view c.args.self.now) c.args.width c.args.tree
    (sub_of seen d.view.held c.in_ok-sub.sub) (lines_text shown) (c.in_ok-sub.ensures.closed tag p)
    (text_shown (sub_of seen d.view.held c.in_ok-sub.sub) shown c.in-Ok.ensures.lines)

pub returns-in-Ok-clause-within : goal.returns-in-Ok-clause-within
returns-in-Ok-clause-within g c = λ tag p steady numbered off wraps wide.
    let d = g.D.TextDecorator in
    let seen = g.D.Annotation.EqualCopy.seen in
    let m = marking d.view tag in
    let laws : TextLaws d.Held g.D.Annotation.EqualCopy.Seen = record {
      lines = λ s. c.annotations_change_no_text.ensures.lines s;
      text = λ s. c.annotations_change_no_text.ensures.text s;
    } in
    let shown = map (line_items (tags_seen seen)) c.in-Ok.lines.items in
    c.texts_keep_the_width.ensures tag (setting_of d.view c.args.self.now) c.args.width c.args.tree
    (lines_text shown) steady numbered off wraps wide
    (printed_alike m laws seen d.view.closes (setting_of d.view c.args.self.now) c.args.width c.args.tree
    (sub_of seen d.view.held c.in_ok-sub.sub) (lines_text shown) (c.in_ok-sub.ensures.closed tag p)
    (text_shown (sub_of seen d.view.held c.in_ok-sub.sub) shown c.in-Ok.ensures.lines))

pub returns-clause-narrow : goal.returns-clause-narrow
returns-clause-narrow g c = λ e.
    let narrow : c.refusal.result ≡ TooNarrow = cc e in
    let d = g.D.TextDecorator in
    let seen = g.D.Annotation.EqualCopy.seen in
    let laws : TextLaws d.Held g.D.Annotation.EqualCopy.Seen = record {
      lines = λ s. c.annotations_change_no_text.ensures.lines s;
      text = λ s. c.annotations_change_no_text.ensures.text s;
    } in
    inr (λ tag p. (lines_missing (marking d.view tag) laws seen d.view.closes (setting_of d.view c.args.self.now)
    c.args.width
    c.args.tree (sub_of seen d.view.held c.in_ok-sub.sub) (c.in_ok-sub.ensures.closed tag p)
    (c.in-Err.ensures.narrow (ap Err (c.refusal.ensures.narrow narrow)))))

pub returns-in_err-sub-clause-narrow : goal.returns-in_err-sub-clause-narrow
returns-in_err-sub-clause-narrow g c = λ e.
    let q = err_from_is_err_and c.from_residual.result c.from_residual.ensures.1 in
    let same : c.in_err-sub.field-0.0 ≡ TooNarrow = cc (q.1, q.2, e) in
    or_else (λ never. λ tag p. none_bound renderer_lines _ (never tag p)) (c.in_err-sub.ensures.narrow (ap Err same))

pub returns-clause-roomy : goal.returns-clause-roomy
returns-clause-roomy g c = λ tag p on wide e.
    let narrow : c.refusal.result ≡ TooNarrow = cc e in
    let d = g.D.TextDecorator in
    let seen = g.D.Annotation.EqualCopy.seen in
    let m = marking d.view tag in
    let laws : TextLaws d.Held g.D.Annotation.EqualCopy.Seen = record {
      lines = λ s. c.annotations_change_no_text.ensures.lines s;
      text = λ s. c.annotations_change_no_text.ensures.text s;
    } in
    c.pages_with_room_are_never_too_narrow.ensures tag (setting_of d.view c.args.self.now) c.args.width
    c.args.tree on ((lines_missing m laws seen d.view.closes (setting_of d.view c.args.self.now) c.args.width
    c.args.tree (sub_of seen d.view.held c.in_ok-sub.sub) (c.in_ok-sub.ensures.closed tag p)
    (c.in-Err.ensures.narrow (ap Err (c.refusal.ensures.narrow narrow)))))

pub returns-in_err-sub-clause-roomy : goal.returns-in_err-sub-clause-roomy
returns-in_err-sub-clause-roomy g c = λ tag p on wide e.
    let q = err_from_is_err_and c.from_residual.result c.from_residual.ensures.1 in
    let same : c.in_err-sub.field-0.0 ≡ TooNarrow = cc (q.1, q.2, e) in
    never_so_narrow _ c.args.width (λ never. c.pages_with_room_are_never_too_narrow.ensures tag
    (setting_of g.D.TextDecorator.view c.args.self.now) c.args.width c.args.tree on
    (none_bound renderer_lines _ (never tag p))) wide (c.in_err-sub.ensures.narrow (ap Err same))
