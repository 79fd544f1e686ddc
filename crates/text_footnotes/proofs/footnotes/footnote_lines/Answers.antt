use Rattle.std.proofs.Common.{ap, ◌∙◌, fold}
use Rattle.std.proofs.lemmas.Result.{IfOk-weaker}
use Rattle.text_lines.specs.Tagged.{line_items}
use Rattle.text_footnotes.specs.Footnotes.{all_lines}
use Rattle.text_footnotes.specs.Cuts.{placed_noted}
use Rattle.text_footnotes.proofs.CutLemmas.{all_placed}
use Rattle.text_footnotes.proofs.footnotes.footnote_lines.Goals as goal

pub returns-clause-lines : goal.returns-clause-lines
returns-clause-lines g c =
    let items = line_items g.A.EqualCopy.seen c.args.line.now in
    IfOk-weaker c.into_lines.result _ _ (λ _ h. h
    ∙ ap all_lines (c.in_ok-push_line.ensures.placed
    ∙ ap (λ cut. fold (placed_noted c.args.width) cut items) c.new-cut.ensures.cut)
    ∙ all_placed c.args.width items) c.into_lines.ensures.lines
