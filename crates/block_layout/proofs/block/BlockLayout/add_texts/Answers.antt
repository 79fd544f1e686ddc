use Rattle.std.proofs.Common.{ap, arith}
use Rattle.std.proofs.lemmas.Bool.Decides.{nat_tests}
use Rattle.std.proofs.lemmas.List.{nil_from_length}
use Rattle.std.proofs.lemmas.Result.{on_ok_weaker}
use Rattle.text_pieces.specs.Sources.{names}
use Rattle.block_layout.specs.Seen.{laid_of, lines_of}
use Rattle.block_layout.proofs.WholeLemmas.{rows_taken}
use Rattle.block_layout.proofs.block.BlockLayout.add_texts.Goals as goal

pub returns-then-is_empty-clause-laid : goal.returns-then-is_empty-clause-laid
returns-then-is_empty-clause-laid g c = λ filled.
    let seen = g.T.EqualCopy.seen in
    let markers = c.args.self.now.markers in
    let unmarked = nil_from_length markers.items
    (grind (arith, nat_tests, c.is_empty.ensures, c.if-is_empty.true, markers.ok.0)) in
    on_ok_weaker c.push_texts.result (λ e. rows_taken seen c.args.measure (seen c.args.tag.now)
    (laid_of seen c.args.self.now) c.args.texts.lines.items (lines_of seen c.push_texts.new.self) c.if-measure.false
    (ap (λ ms. names ms) unmarked) filled e) c.push_texts.ensures.lines
