use Rattle.text_lines.proofs.Joined.{appended}
use Rattle.text_lines.proofs.joining.push_elements.Goals as goal

pub returns-clause-ok : goal.returns-clause-ok
returns-clause-ok g c =
    appended g.T.EqualCopy.seen c.args.elements.now.items c.reserve.new.self.items c.join_first.new.elements.items
    c.in_ok-copies.copies.items c.join_first.new.copies.items c.args.others.now _ c.append.result
    c.append.ensures.items c.in_ok-join_first.ensures.ok c.reserve.ensures.items c.in_ok-copies.ensures.items
