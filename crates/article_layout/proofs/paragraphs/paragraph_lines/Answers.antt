use Rattle.std.proofs.Common.{◌≡◌, [], Err, ap, ◌∙◌, map, sym}
use Rattle.std.proofs.lemmas.Result.{err_from_is_err_and}
use Rattle.article_layout.specs.Lines.{line_of, tag_of}
use Rattle.article_layout.specs.Seen.{said_of}
use Rattle.article_layout.specs.Settings.{options_of}
use Rattle.article_values.specs.Views.{inlines_view}
use Rattle.block_layout.specs.Laid.{flush}
use Rattle.block_layout.specs.Seen.{laid_of}
use Rattle.text_footnotes.specs.Links.{all_targets}
use Rattle.text_cells.specs.Cells.{laid_line_of}
use Rattle.text_pieces.specs.declared.fault.BlockError.TheVariants.{TooNarrow}
use Rattle.article_layout.proofs.ParagraphLines.{lines_found, not_flushed, not_said, targets_found}
use Rattle.article_layout.proofs.paragraphs.paragraph_lines.Goals as goal

pub returns-in_err-say_inlines-clause-narrow : goal.returns-in_err-say_inlines-clause-narrow
returns-in_err-say_inlines-clause-narrow c = λ e.
    let q = err_from_is_err_and c.from_residual.result c.from_residual.ensures.1 in
    let same : c.in_err-say_inlines.field-0.0 ≡ TooNarrow = cc (q.1, q.2, e) in
    not_said (options_of c.args.room.options) c.args.room.width c.args.trailing.now.paragraphs
    (inlines_view c.args.contents.now)
    (all_targets c.args.trailing.now.targets) (c.calls_of_a_paragraph.ensures (options_of c.args.room.options)
    c.args.room.width c.args.trailing.now.paragraphs
    (all_targets c.args.trailing.now.targets) (inlines_view c.args.contents.now) [] []) (tag_of c.new-outermost.result)
    (laid_of tag_of c.new-block.result) (ap (map (λ _. tt)) c.new-outermost.ensures.items) c.new-block.ensures.laid
    (c.say_inlines.ensures.narrow (c.in_err-say_inlines.was ∙ ap Err same))

pub returns-in_err-flush-clause-narrow : goal.returns-in_err-flush-clause-narrow
returns-in_err-flush-clause-narrow c = λ e.
    let q = err_from_is_err_and c.from_residual-in_err-flush.result c.from_residual-in_err-flush.ensures.1 in
    let same : c.in_err-flush.field-0.0 ≡ TooNarrow = cc (q.1, q.2, e) in
    not_flushed (options_of c.args.room.options) c.args.room.width c.args.trailing.now.paragraphs
    (inlines_view c.args.contents.now)
    (all_targets c.args.trailing.now.targets) (c.calls_of_a_paragraph.ensures (options_of c.args.room.options)
    c.args.room.width c.args.trailing.now.paragraphs
    (all_targets c.args.trailing.now.targets) (inlines_view c.args.contents.now) [] []) (tag_of c.new-outermost.result)
    (laid_of tag_of c.new-block.result) (said_of c.say_inlines.new.block c.say_inlines.new.targets)
    (ap (map (λ _. tt)) c.new-outermost.ensures.items) c.new-block.ensures.laid c.in_ok-say_inlines.ensures.done
    (ap (λ m. flush m (tag_of c.new-outermost.result) (laid_of tag_of c.say_inlines.new.block)) (sym c.measure.ensures)
    ∙ c.flush.ensures.narrow (c.in_err-flush.was ∙ ap Err same))

pub returns-clause-lines : goal.returns-clause-lines
returns-clause-lines c =
    lines_found (options_of c.args.room.options) c.args.room.width c.args.trailing.now.paragraphs
    (inlines_view c.args.contents.now)
    (all_targets c.args.trailing.now.targets) (c.calls_of_a_paragraph.ensures (options_of c.args.room.options)
    c.args.room.width c.args.trailing.now.paragraphs
    (all_targets c.args.trailing.now.targets) (inlines_view c.args.contents.now) [] []) (tag_of c.new-outermost.result)
    (laid_of tag_of c.new-block.result) (said_of c.say_inlines.new.block c.say_inlines.new.targets)
    (laid_of tag_of c.flush.new.self)
    (map (laid_line_of tag_of) c.in_ok-laid.laid.items) (map line_of c.in_ok-lines.lines.items)
    (ap (map (λ _. tt)) c.new-outermost.ensures.items) c.new-block.ensures.laid
    c.in_ok-say_inlines.ensures.done
    (ap (λ m. flush m (tag_of c.new-outermost.result) (laid_of tag_of c.say_inlines.new.block)) (sym c.measure.ensures)
    ∙ c.in_ok-flush.ensures.flushed) (c.in_ok-laid.ensures.lines ∙ c.into_laid_lines.ensures.lines)
    c.in_ok-lines.ensures

pub returns-clause-targets : goal.returns-clause-targets
returns-clause-targets c =
    targets_found (options_of c.args.room.options) c.args.room.width c.args.trailing.now.paragraphs
    (inlines_view c.args.contents.now)
    (all_targets c.args.trailing.now.targets) (tag_of c.new-outermost.result) (laid_of tag_of c.new-block.result)
    (said_of c.say_inlines.new.block c.say_inlines.new.targets) (ap (map (λ _. tt)) c.new-outermost.ensures.items)
    c.new-block.ensures.laid c.in_ok-say_inlines.ensures.done
