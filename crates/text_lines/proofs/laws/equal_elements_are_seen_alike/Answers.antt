use Rattle.std.proofs.Common.{refl}
use Rattle.text_lines.proofs.Alike.{elements_alike}
use Rattle.text_lines.specs.contracts.tagged_string.TaggedLineElementPartialEq.TheImpl.{eq-value as elements}
use Rattle.text_lines.proofs.laws.equal_elements_are_seen_alike.Goals as goal

pub returns : goal.returns
returns g c =
    elements_alike g.T.PartialEq.eq g.T.EqualCopy.seen g.met.T.EqualCopy.same g.met.T.EqualCopy.apart
    (elements g.row.T g.T.PartialEq g.T.PartialEq-dict).it
    (record { texts = λ a b. refl; text_first = λ a b. refl; name_first = λ a b. refl; names = λ a b. refl })
