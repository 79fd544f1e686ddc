use Rattle.std.proofs.Common.{◌≡◌, Err, ap, ◌∙◌, map}
use Rattle.std.proofs.lemmas.Result.{err_from_is_err_and}
use Rattle.article_layout.specs.Seen.{at_of, lines_of, emitted, emitted_of}
use Rattle.article_layout.specs.Settings.{options_of}
use Rattle.article_values.specs.Views.{blocks_view}
use Rattle.text_footnotes.specs.Links.{all_targets}
use Rattle.text_pieces.specs.declared.fault.BlockError.TheVariants.{TooNarrow}
use Rattle.article_layout.proofs.ArticleLines.{all_lines, no_lines}
use Rattle.article_layout.proofs.layout.laid_article.Goals as goal

pub returns-in_err-lay_blocks-clause-narrow : goal.returns-in_err-lay_blocks-clause-narrow
returns-in_err-lay_blocks-clause-narrow c = λ e.
    let q = err_from_is_err_and c.from_residual.result c.from_residual.ensures.1 in
    let same : c.in_err-lay_blocks.field-0.0 ≡ TooNarrow = cc (q.1, q.2, e) in
    no_lines (options_of c.args.options) c.args.width (blocks_view c.args.blocks.now) (lines_of c.new-lines.result)
    (all_targets c.new.result) c.if-width-eq0.false c.new-lines.ensures c.new.ensures
    (c.lay_blocks.ensures.narrow (c.in_err-lay_blocks.was ∙ ap Err same))

pub returns-clause-lines : goal.returns-clause-lines
returns-clause-lines c =
    all_lines (options_of c.args.options) c.args.width (blocks_view c.args.blocks.now) (lines_of c.new-lines.result)
    (all_targets c.new.result) (at_of c.lay_blocks.new.lines c.lay_blocks.new.trailing)
    (lines_of c.add_footnotes.new.lines) (map emitted_of c.in_ok-lines.lines.items) c.if-width-eq0.false
    c.new-lines.ensures c.new.ensures c.in_ok-lay_blocks.ensures.done
    c.in_ok-add_footnotes.ensures
    (c.in_ok-lines.ensures ∙ ap (map emitted) c.into_lines.ensures)
