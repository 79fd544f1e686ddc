use Rattle.std.proofs.Common.{◌≡◌, ◌++◌, [], sym, ap, ◌∙◌, refl, chars, string_bytes, append-nil, append_assoc}
use Rattle.std.proofs.lemmas.Bool.{iff_false}
use Rattle.html_lexemes.specs.Queue.{Queue}
use Rattle.html_lexemes.specs.QueueParts.{joined}
use Rattle.html_lexemes.proofs.QueueLemmas.{queue_same}
use Rattle.html_lexemes.proofs.WaitingLemmas.{alone_waits, empty_text, filled_text, joined_push, more_wait, none_first}
use Rattle.html_lexemes.proofs.WaitingLemmas.{none_left}
use Rattle.html_lexemes.proofs.queue.BufferQueue.push_back.Goals as goal

pub invariant_of-self : goal.invariant_of-self
invariant_of-self c =
    let text = ap (λ (q : Queue). q.text) c.self.view_is in
    let none = none_first _ _ (text ∙ c.is_empty.ensures.0 c.if-is_empty.true) in
    alone_waits c.self.inside.first c.new.result c.self.inside.later.items c.self.invariant none

pub returns-then-is_empty-clause-ok : goal.returns-then-is_empty-clause-ok
returns-then-is_empty-clause-ok c =
    let text = ap (λ (q : Queue). q.text) c.self.view_is in
    let nothing = c.is_empty.ensures.0 c.if-is_empty.true in
    let none = none_first _ _ (text ∙ nothing) in
    let added = chars (string_bytes c.args.text) in
    queue_same
    (ap (λ l. l ++ joined c.self.inside.later.items) c.new.ensures
    ∙ ap (λ ts. added ++ joined ts) (c.self.invariant.last none)
    ∙ append-nil added
    ∙ ap (λ l. l ++ added) (sym nothing)) (ap (λ (q : Queue). q.taken) c.self.view_is)

pub invariant_of-self-in-Continue-1 : goal.invariant_of-self-in-Continue-1
invariant_of-self-in-Continue-1 c =
    let text = ap (λ (q : Queue). q.text) c.self.view_is in
    let some : c.self.inside.first ≡ [] → ⊥ =
    λ none. iff_false c.is_empty.ensures c.if-is_empty.false (sym text ∙ none_left _ _ c.self.invariant none) in
    more_wait c.self.inside.first c.self.inside.later.items c.push_back.new.self.items c.args.text _
    c.self.invariant some (filled_text c.args.text c.is_empty-2.result c.is_empty-2.ensures c.if-not-is_empty.true)
    c.push_back.ensures.items

pub returns-in_ok-push_back-clause-ok : goal.returns-in_ok-push_back-clause-ok
returns-in_ok-push_back-clause-ok c =
    let first = c.self.inside.first in
    let later = c.self.inside.later.items in
    let added = chars (string_bytes c.args.text) in
    queue_same
    (ap (λ ts. first ++ joined ts) c.in_ok-push_back.ensures.items
    ∙ ap (λ l. first ++ l) (joined_push later c.args.text)
    ∙ sym (append_assoc first (joined later) added)
    ∙ ap (λ l. l ++ added) (ap (λ (q : Queue). q.text) c.self.view_is)) (ap (λ (q : Queue). q.taken) c.self.view_is)

pub returns-else-not-is_empty-clause-ok : goal.returns-else-not-is_empty-clause-ok
returns-else-not-is_empty-clause-ok c =
    let text = c.args.self.now.text in
    let none = empty_text c.args.text c.is_empty-2.result c.is_empty-2.ensures c.if-not-is_empty.false in
    queue_same (sym (append-nil text) ∙ ap (λ l. text ++ l) (sym none)) refl
