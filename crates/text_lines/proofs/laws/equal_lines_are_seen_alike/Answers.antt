use Rattle.std.proofs.Common.{refl}
use Rattle.text_lines.proofs.Alike.{EmitsAlike, emitted_items, joined_emitted}
use Rattle.text_lines.specs.contracts.tagged_string.TaggedLineElementPartialEq.TheImpl.{eq-value as elements}
use Rattle.text_lines.proofs.laws.equal_lines_are_seen_alike.Goals as goal
use Rattle.text_lines.proofs.laws.equal_lines_are_seen_alike.Given as given

emits : (g : given.Over) → EmitsAlike g.T.PartialEq.eq g.T.EqualCopy.seen g.met.T.EqualCopy.same g.met.T.EqualCopy.apart
    (elements g.row.T g.T.PartialEq g.T.PartialEq-dict).it
emits g = record { texts = λ a b. refl; text_first = λ a b. refl; name_first = λ a b. refl; names = λ a b. refl }

pub returns-clause-items : goal.returns-clause-items
returns-clause-items g c = λ a b e.
    emitted_items g.T.PartialEq.eq g.T.EqualCopy.seen g.met.T.EqualCopy.same g.met.T.EqualCopy.apart
    (elements g.row.T g.T.PartialEq g.T.PartialEq-dict).it (emits g) a.elements.items b.elements.items a.columns
    b.columns e

pub returns-clause-joined : goal.returns-clause-joined
returns-clause-joined g c = λ a b first second same.
    joined_emitted g.T.PartialEq.eq g.T.EqualCopy.seen g.met.T.EqualCopy.same g.met.T.EqualCopy.apart
    (elements g.row.T g.T.PartialEq g.T.PartialEq-dict).it (emits g) a.elements.items b.elements.items a.columns
    b.columns a.counted b.counted first second same
