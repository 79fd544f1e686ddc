use Rattle.std.proofs.Common.{◌++◌, sym, ap, ◌∙◌, subst, chars}
use Rattle.std.proofs.lemmas.Result.{on_ok_weaker}
use Rattle.text_lines.specs.Elements.{elements_items, tagged, EndsWithTag}
use Rattle.text_lines.proofs.joining.push_new.Goals as goal

pub returns-clause-ok : goal.returns-clause-ok
returns-clause-ok g c =
    let es = c.args.elements.now.items in
    let seen = g.T.EqualCopy.seen in
    on_ok_weaker c.push_own.result (λ pushed. pushed
    ∙ ap (λ bytes. elements_items seen es ++ tagged (chars bytes) (seen c.in_ok-tag.tag)) c.in_ok-s.ensures.ok
    ∙ ap (λ t. elements_items seen es ++ tagged (chars c.args.text.now) t) c.in_ok-tag.ensures) c.push_own.ensures.ok

pub returns-clause-joined : goal.returns-clause-joined
returns-clause-joined g c =
    let es = c.args.elements.now.items in
    let seen = g.T.EqualCopy.seen in
    on_ok_weaker c.push_own.result (λ pushed joined some ends.
    pushed joined (λ none. some (sym c.in_ok-s.ensures.ok ∙ none))
    (λ h. ends (subst (λ t. EndsWithTag seen t es) c.in_ok-tag.ensures h))) c.push_own.ensures.joined
