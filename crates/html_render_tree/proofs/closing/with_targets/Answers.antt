use Rattle.std.proofs.Common.{◌≡◌, Err, ap, sym, ◌∙◌}
use Rattle.std.proofs.lemmas.Result.{err_from_is_err_and}
use Rattle.block_trait.specs.Renderers.{with_held}
use Rattle.block_renderer.specs.Seen.{sub_of}
use Rattle.text_decorators.specs.Marks.{page_end, seen_lines}
use Rattle.text_pieces.specs.Sources.{names}
use Rattle.text_pieces.specs.declared.fault.BlockError.TheVariants.{TooNarrow}
use Rattle.html_render_tree.specs.PageLines.{with_notes}
use Rattle.html_render_tree.proofs.closing.with_targets.Goals as goal

pub returns-in_err-add_notes-clause-narrow : goal.returns-in_err-add_notes-clause-narrow
returns-in_err-add_notes-clause-narrow g c = λ e. λ tag p.
    let d = g.D.TextDecorator in
    let seen = g.D.Annotation.EqualCopy.seen in
    let s = sub_of seen d.view.held c.args.sub in
    let notes = seen_lines seen (d.view.closes s.held (names c.args.targets.items)) in
    let q = err_from_is_err_and c.from_residual-in_err-add_notes.result
    c.from_residual-in_err-add_notes.ensures.1 in
    let same : c.in_err-add_notes.field-0.0 ≡ TooNarrow = cc (q.1, q.2, e) in
    ap (λ l. with_notes l (with_held (d.view.after s.held (page_end (names c.args.targets.items))) s))
    (sym c.in_ok-notes.ensures.closes)
    ∙ (ap (with_notes _) (sym c.in_ok-notes.ensures.after) ∙ c.in_err-add_notes.ensures.narrow (ap Err same) tag p)

pub returns-clause-closed : goal.returns-clause-closed
returns-clause-closed g c = λ tag p.
    let d = g.D.TextDecorator in
    let seen = g.D.Annotation.EqualCopy.seen in
    let s = sub_of seen d.view.held c.args.sub in
    ap (λ l. with_notes l (with_held (d.view.after s.held (page_end (names c.args.targets.items))) s))
    (sym c.in_ok-notes.ensures.closes)
    ∙ (ap (with_notes _) (sym c.in_ok-notes.ensures.after) ∙ c.in_ok-add_notes.ensures.done tag p)
