use Rattle.std.proofs.Common.{refl, string_bytes}
use Rattle.text_lines.proofs.Joined.{text_joined}
use Rattle.text_lines.specs.declared.tagged_string.TaggedLineElement.TheVariants.{Str}
use Rattle.text_lines.proofs.Joins.{items_pushed}
use Rattle.text_lines.proofs.joining.push_own.Goals as goal

pub returns-clause-ok : goal.returns-clause-ok
returns-clause-ok g c =
    items_pushed g.T.EqualCopy.seen c.args.elements.now.items c.push.new.self.items
    (Str (record { s = c.args.s; tag = c.args.tag })) (rw c.make_room.ensures at c.in_ok-push.ensures.items)

pub returns-clause-joined : goal.returns-clause-joined
returns-clause-joined g c =
    text_joined g.T.EqualCopy.seen c.args.elements.now.items c.push.new.self.items
    (record { s = c.args.s; tag = c.args.tag }) (string_bytes c.args.s) (g.T.EqualCopy.seen c.args.tag)
    (rw c.make_room.ensures at c.in_ok-push.ensures.items) refl refl
