use Rattle.std.proofs.Common.{arith}
use Rattle.std.proofs.lemmas.List.{nil_from_length}
use Rattle.std.proofs.lemmas.Bool.Decides.{nat_tests}
use Rattle.text_lines.proofs.Fronts.{nothing_in_front}
use Rattle.text_lines.proofs.joining.push_front.Goals as goal

pub returns-then-is_empty-clause-ok : goal.returns-then-is_empty-clause-ok
returns-then-is_empty-clause-ok g c =
    nothing_in_front _ c.args.text.now (g.T.EqualCopy.seen c.args.tag.now)
    (nil_from_length c.args.text.now (grind (arith, nat_tests)))
