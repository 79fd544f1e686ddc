use Rattle.std.proofs.Common.{◌≡◌, ◌∙◌, Err, Some, ap, inr}
use Rattle.std.proofs.lemmas.Result.{err_from_is_err_and}
use Rattle.block_renderer.specs.Seen.{marking, sub_of}
use Rattle.render_conversion.specs.declared.error.RenderError.TheVariants.{TooNarrow}
use Rattle.text_block_renderer.specs.SeenParts.{parts_of}
use Rattle.html_render_tree.specs.Settings.{setting_of}
use Rattle.html_render_tree.proofs.BareLemmas.{BareLaws, closed_alike, never_alike, never_laid, or_else}
use Rattle.html_render_tree.proofs.config.RenderConfig.closed_bare.Goals as goal

pub returns-in-Ok-clause-closed : goal.returns-in-Ok-clause-closed
returns-in-Ok-clause-closed g c = λ tag p.
    let d = g.D.TextDecorator in
    let seen = g.D.Annotation.EqualCopy.seen in
    let m = marking d.view tag in
    let laws : BareLaws m = record {
      does = λ call s. c.annotations_change_no_text.ensures.step m call s;
      notes = λ notes s. c.annotations_change_no_text.ensures.footnotes notes s;
      bare = λ s. c.annotations_change_no_text.ensures.bare s;
      laid = c.annotations_change_no_page.ensures m;
    } in
    closed_alike laws seen d.view.closes (setting_of d.view c.args.self.now) c.args.width c.args.tree.now
    (parts_of seen d.view.held c.in_ok-text.text) (Some (sub_of seen d.view.held c.in-Ok.sub))
    (c.in_ok-text.ensures.laid tag p) (c.in-Ok.ensures.closed tag p)

pub returns-in-Err-clause-narrow : goal.returns-in-Err-clause-narrow
returns-in-Err-clause-narrow g c = λ e.
    let narrow : c.refusal.result ≡ TooNarrow = cc e in
    let d = g.D.TextDecorator in
    let seen = g.D.Annotation.EqualCopy.seen in
    inr (λ tag p.
    let m = marking d.view tag in
    let laws : BareLaws m = record {
      does = λ call s. c.annotations_change_no_text.ensures.step m call s;
      notes = λ notes s. c.annotations_change_no_text.ensures.footnotes notes s;
      bare = λ s. c.annotations_change_no_text.ensures.bare s;
      laid = c.annotations_change_no_page.ensures m;
    } in
    never_alike laws seen d.view.closes (setting_of d.view c.args.self.now) c.args.width c.args.tree.now
    (parts_of seen d.view.held c.in_ok-text.text) (c.in_ok-text.ensures.laid tag p)
    (c.in-Err.ensures.narrow (ap Err (c.refusal.ensures.narrow narrow)) tag p))

pub returns-in_err-text-clause-narrow : goal.returns-in_err-text-clause-narrow
returns-in_err-text-clause-narrow g c = λ e.
    let q = err_from_is_err_and c.from_residual.result c.from_residual.ensures.1 in
    let same : c.in_err-text.field-0.0 ≡ TooNarrow = cc (q.1, q.2, e) in
    let d = g.D.TextDecorator in
    let seen = g.D.Annotation.EqualCopy.seen in
    or_else (λ never. λ tag p.
    let m = marking d.view tag in
    let laws : BareLaws m = record {
      does = λ call s. c.annotations_change_no_text.ensures.step m call s;
      notes = λ notes s. c.annotations_change_no_text.ensures.footnotes notes s;
      bare = λ s. c.annotations_change_no_text.ensures.bare s;
      laid = c.annotations_change_no_page.ensures m;
    } in
    never_laid laws seen d.view.closes (setting_of d.view c.args.self.now) c.args.width c.args.tree.now
    (never tag p))
    (c.laid.ensures.narrow (c.in_err-text.was ∙ ap Err same))
