use Rattle.std.proofs.Common.{refl}
use Rattle.text_lines.proofs.Joined.{appended}
use Rattle.text_lines.proofs.joining.move_elements.Goals as goal

pub returns-then-are_joined-clause-ok : goal.returns-then-are_joined-clause-ok
returns-then-are_joined-clause-ok g c =
    appended g.T.EqualCopy.seen c.args.elements.now.items c.reserve.new.self.items c.join_first.new.elements.items
    c.args.others.now.items c.join_first.new.copies.items c.args.others.now.items _ c.append.result
    c.append.ensures.items c.in_ok-join_first.ensures.ok c.reserve.ensures.items refl
