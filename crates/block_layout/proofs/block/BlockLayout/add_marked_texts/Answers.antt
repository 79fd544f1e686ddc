use Rattle.std.proofs.Common.{ap, sym, ◌∙◌}
use Rattle.std.proofs.lemmas.Result.{on_ok_weaker}
use Rattle.text_cells.specs.Cells.{texts_items}
use Rattle.block_layout.specs.LaidRows.{add_row_lines}
use Rattle.block_layout.specs.Seen.{laid_of, lines_of}
use Rattle.block_layout.proofs.WholeLemmas.{rows_taken}
use Rattle.block_layout.proofs.block.BlockLayout.add_marked_texts.Goals as goal

pub returns-clause-laid : goal.returns-clause-laid
returns-clause-laid g c = λ filled.
    let seen = g.T.EqualCopy.seen in
    let tag = seen c.args.tag.now in
    on_ok_weaker c.push_texts.result (λ e. rows_taken seen c.args.measure tag (laid_of seen c.add_row_text.new.self)
    c.pop_first.new.self.lines.items (lines_of seen c.push_texts.new.self) c.requires
    (ap (λ b. b.markers) c.in_ok-add_row_text.ensures.laid) (c.pop_first.ensures.content filled) e
    ∙ ap (λ b. add_row_lines c.args.measure tag (texts_items seen c.pop_first.new.self) b)
    c.in_ok-add_row_text.ensures.laid
    ∙ sym (ap (λ items. add_row_lines c.args.measure tag items (laid_of seen c.args.self.now)) c.in-Some.ensures.items))
    c.push_texts.ensures.lines
