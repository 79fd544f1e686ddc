use Rattle.std.proofs.Common.{subst, sym}
use Rattle.text_lines.specs.Elements.{AreJoined}
use Rattle.text_lines.proofs.Joined.{marker_pushed}
use Rattle.text_lines.specs.declared.tagged_string.TaggedLineElement.TheVariants.{FragmentStart}
use Rattle.text_lines.proofs.Joins.{items_pushed}
use Rattle.text_lines.proofs.joining.move_marker.Goals as goal

pub returns-clause-ok : goal.returns-clause-ok
returns-clause-ok g c =
    items_pushed g.T.EqualCopy.seen c.args.elements.now.items c.push.new.self.items (FragmentStart c.args.name)
    c.in_ok-push.ensures.items

pub returns-clause-joined : goal.returns-clause-joined
returns-clause-joined g c joined =
    subst (AreJoined g.T.EqualCopy.seen) (sym c.in_ok-push.ensures.items)
    (marker_pushed g.T.EqualCopy.seen c.args.elements.now.items c.args.name joined)
