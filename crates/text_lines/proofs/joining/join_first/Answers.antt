use Rattle.std.proofs.Common.{sym, ◌∙◌}
use Rattle.std.proofs.lemmas.Bool.{false≢true}
use Rattle.text_lines.proofs.Joined.{both_joined, first_items, first_joined, same_meeting}
use Rattle.text_lines.proofs.joining.join_first.Goals as goal

pub returns-in_ok-extend_last-clause-ok : goal.returns-in_ok-extend_last-clause-ok
returns-in_ok-extend_last-clause-ok g c =
    let seen = g.T.EqualCopy.seen in
    let meet = (same_meeting seen c.args.elements.now.items _ c.args.copies.now.items _ c.deref.ensures.value
    c.deref-2.ensures.value).0 (c.meet_with_tag.ensures.0 c.if-meet_with_tag.true) in
    first_items seen c.args.elements.now.items c.args.copies.now.items _ c.index.result.now c.as_str.result.now _ meet
    c.in_ok-extend_last.ensures.ok c.index.ensures c.as_str.ensures c.remove-first.ensures.by_index.2

pub returns-in_ok-extend_last-clause-joined : goal.returns-in_ok-extend_last-clause-joined
returns-in_ok-extend_last-clause-joined g c = λ first second.
    let seen = g.T.EqualCopy.seen in
    let meet = (same_meeting seen c.args.elements.now.items _ c.args.copies.now.items _ c.deref.ensures.value
    c.deref-2.ensures.value).0 (c.meet_with_tag.ensures.0 c.if-meet_with_tag.true) in
    first_joined seen c.args.elements.now.items c.extend_last.new.elements.items c.args.copies.now.items
    c.remove-first.new.self.items meet c.extend_last.ensures.ends c.remove-first.ensures.by_index.2
    (c.extend_last.ensures.joined first) second

pub returns-else-meet_with_tag-clause-joined : goal.returns-else-meet_with_tag-clause-joined
returns-else-meet_with_tag-clause-joined g c = λ first second.
    let seen = g.T.EqualCopy.seen in
    let meets = same_meeting seen c.args.elements.now.items _ c.args.copies.now.items _ c.deref.ensures.value
    c.deref-2.ensures.value in
    both_joined seen c.args.elements.now.items c.args.copies.now.items first second
    (λ meet. false≢true (sym c.if-meet_with_tag.false ∙ c.meet_with_tag.ensures.1 (meets.1 meet)))
