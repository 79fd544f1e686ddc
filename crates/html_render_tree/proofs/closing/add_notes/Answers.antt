use Rattle.std.proofs.Common.{◌≡◌, Err, ap, arith, map, ◌∙◌}
use Rattle.std.proofs.lemmas.Result.{err_from_is_err_and, on_ok_weaker}
use Rattle.std.specs.Option.{option_and_then}
use Rattle.block_renderer.specs.Footnotes.{add_footnotes}
use Rattle.block_renderer.specs.Seen.{sub_of}
use Rattle.text_lines.specs.Tagged.{line_items}
use Rattle.text_pieces.specs.declared.fault.BlockError.TheVariants.{TooNarrow}
use Rattle.html_render_tree.proofs.LineLemmas.{notes_are, some_left}
use Rattle.html_render_tree.proofs.closing.add_notes.Goals as goal

pub returns-clause-done : goal.returns-clause-done
returns-clause-done g c = on_ok_weaker c.fmt_links.result (λ h. λ tag p.
    notes_are (map (line_items g.D.Annotation.EqualCopy.seen) c.args.notes.items)
    (sub_of g.D.Annotation.EqualCopy.seen g.D.TextDecorator.view.held c.args.sub.now)
    (some_left (line_items g.D.Annotation.EqualCopy.seen) c.args.notes.items (λ e. grind (
      arith,
      c.is_empty.ensures,
      c.if-is_empty.false,
      e,
    )))
    ∙ (ap (option_and_then (add_footnotes (map (line_items g.D.Annotation.EqualCopy.seen) c.args.notes.items)))
    (c.in_ok-start_block.ensures.outcome.done tag p) ∙ h)) c.fmt_links.ensures.outcome.done

pub returns-clause-narrow : goal.returns-clause-narrow
returns-clause-narrow g c = λ e. λ tag p.
    notes_are (map (line_items g.D.Annotation.EqualCopy.seen) c.args.notes.items)
    (sub_of g.D.Annotation.EqualCopy.seen g.D.TextDecorator.view.held c.args.sub.now)
    (some_left (line_items g.D.Annotation.EqualCopy.seen) c.args.notes.items (λ e. grind (
      arith,
      c.is_empty.ensures,
      c.if-is_empty.false,
      e,
    )))
    ∙ (ap (option_and_then (add_footnotes (map (line_items g.D.Annotation.EqualCopy.seen) c.args.notes.items)))
    (c.in_ok-start_block.ensures.outcome.done tag p) ∙ c.fmt_links.ensures.outcome.narrow e)

pub returns-in_err-start_block-clause-narrow : goal.returns-in_err-start_block-clause-narrow
returns-in_err-start_block-clause-narrow g c = λ e. λ tag p.
    let q = err_from_is_err_and c.from_residual.result c.from_residual.ensures.1 in
    let same : c.in_err-start_block.field-0.0 ≡ TooNarrow = cc (q.1, q.2, e) in
    notes_are (map (line_items g.D.Annotation.EqualCopy.seen) c.args.notes.items)
    (sub_of g.D.Annotation.EqualCopy.seen g.D.TextDecorator.view.held c.args.sub.now)
    (some_left (line_items g.D.Annotation.EqualCopy.seen) c.args.notes.items (λ e. grind (
      arith,
      c.is_empty.ensures,
      c.if-is_empty.false,
      e,
    )))
    ∙ ap (option_and_then (add_footnotes (map (line_items g.D.Annotation.EqualCopy.seen) c.args.notes.items)))
    (c.in_err-start_block.ensures.outcome.narrow (ap Err same) tag p)
