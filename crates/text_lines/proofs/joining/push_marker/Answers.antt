use Rattle.std.proofs.Common.{[], ◌∷◌, ◌++◌, ap, ◌∙◌, chars, subst, sym}
use Rattle.text_lines.specs.Elements.{AreJoined, elements_items, marker}
use Rattle.text_lines.proofs.Joined.{marker_pushed}
use Rattle.text_lines.specs.declared.tagged_string.TaggedLineElement.TheVariants.{FragmentStart}
use Rattle.text_lines.proofs.Joins.{items_pushed}
use Rattle.text_lines.proofs.joining.push_marker.Goals as goal

pub returns-clause-ok : goal.returns-clause-ok
returns-clause-ok g c =
    let es = c.args.elements.now.items in
    items_pushed g.T.EqualCopy.seen es c.push.new.self.items (FragmentStart c.in_ok-name.name)
    c.in_ok-push.ensures.items ∙ ap (λ bytes. elements_items g.T.EqualCopy.seen es ++ marker (chars bytes) ∷ [])
    c.in_ok-name.ensures.ok

pub returns-clause-joined : goal.returns-clause-joined
returns-clause-joined g c joined =
    subst (AreJoined g.T.EqualCopy.seen) (sym c.in_ok-push.ensures.items)
    (marker_pushed g.T.EqualCopy.seen c.args.elements.now.items c.in_ok-name.name joined)
