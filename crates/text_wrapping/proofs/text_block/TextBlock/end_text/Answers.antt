use Rattle.std.proofs.Common.{ap, arith}
use Rattle.std.proofs.lemmas.Bool.Decides.{nat_tests}
use Rattle.std.proofs.lemmas.List.{nil_from_length}
use Rattle.text_pieces.specs.Sources.{sources_of}
use Rattle.text_wrapping.specs.Blocks.{text_of}
use Rattle.text_wrapping.proofs.NothingLemmas.{nothing_ended}
use Rattle.text_wrapping.proofs.text_block.TextBlock.end_text.Goals as goal

pub returns-then-is_empty-clause-ended : goal.returns-then-is_empty-clause-ended
returns-then-is_empty-clause-ended g c =
    let seen = g.T.EqualCopy.seen in
    nothing_ended (text_of seen c.args.self.now) (ap (sources_of seen) (nil_from_length c.args.self.now.pieces.items
    (grind (arith, nat_tests, c.args.self.now.pieces.ok.0))))

pub returns-in_err-wait-clause-joined : goal.returns-in_err-wait-clause-joined
returns-in_err-wait-clause-joined g c = λ h.
    c.wait.ensures.joined (c.put_lines.ensures.joined (c.take_laid.ensures.stays h) c.in_ok-lines.ensures.joined)

pub returns-clause-joined : goal.returns-clause-joined
returns-clause-joined g c = λ h.
    c.wait.ensures.joined (c.put_lines.ensures.joined (c.take_laid.ensures.stays h) c.in_ok-lines.ensures.joined)
