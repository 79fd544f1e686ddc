use Rattle.std.proofs.Common.{rules}
use Rattle.std.proofs.lemmas.Iterator.{cases_from_all, YieldsList-from_slice}
use Rattle.text_lines.specs.Elements.{IsEmpty}
use Rattle.text_lines.proofs.Emptiness.{none_by_all}
use Rattle.text_lines.proofs.tagged_line.TaggedLine.is_empty.Goals as goal
use borrow.Author.Tests.{tests}

pub returns : goal.returns
returns g c =
    none_by_all g.T.EqualCopy.seen c.args.self.now.elements.items _
    (cases_from_all _ _ _ (λ e. IsEmpty e) (λ e. ¬ IsEmpty e) c.all.ensures.ran
    (YieldsList-from_slice c.args.self.now.elements.items cc) (λ x q k. search (rules, tests))
    (λ x q k. search (rules, tests)))
