use Rattle.std.proofs.Common.{◌≡◌, inr, sym, ap, ◌∙◌, [], ◌∷◌, ◌++◌, subst, length}
use Rattle.std.specs.Iterator.{YieldsLastBy}
use Rattle.html_render_dom.specs.ChildNodes.{children_left}
use Rattle.html_render_dom.specs.Nodes.{kinds_of, links_of}
use Rattle.html_render_dom.specs.Spans.{IsLeft, span}
use Rattle.std.specs.Prelude.{option_map}
use Rattle.html_render_dom.specs.Numbers.{number_of}
use Rattle.html_render_dom.proofs.SpanSteps.{all_next, end_within, goes_last, last_alone, last_of_more, none_given}
use Rattle.html_render_dom.proofs.child_nodes.ChildNodesDoubleEndedIterator.next_back.Goals as goal

pub returns-in_err-last-clause-steps : goal.returns-in_err-last-clause-steps
returns-in_err-last-clause-steps c =
    let nothing : c.args.self.now ≡ [] = sym c.self.view_is ∙ none_given (links_of c.self.inside.nodes.now)
    (length (kinds_of c.self.inside.nodes.now)) (option_map number_of c.self.inside.front)
    (option_map number_of c.self.inside.back) (ap (option_map number_of) c.in_err-last.was)
    c.self.invariant in
    subst (λ r. YieldsLastBy number_of children_left c.args.self.now r c.args.self.now) (sym c.from_residual.ensures)
    (nothing, nothing)

pub returns-then-is_at-clause-steps : goal.returns-then-is_at-clause-steps
returns-then-is_at-clause-steps c = sym c.self.view_is ∙ last_alone (links_of c.self.inside.nodes.now)
    (length (kinds_of c.self.inside.nodes.now)) (number_of c.in_ok-last.last)
    (option_map number_of c.self.inside.front) (option_map number_of c.self.inside.back)
    (all_next c.self.inside.nodes.now.items.items) (ap (option_map number_of) c.in_ok-last.was) c.if-is_at.ensures
    c.self.invariant

pub returns-then-is_at-clause-goes : goal.returns-then-is_at-clause-goes
returns-then-is_at-clause-goes c = goes_last number_of _ (λ _. tt) _ _ c.in_ok-last.last
    (sym c.self.view_is ∙ last_alone (links_of c.self.inside.nodes.now)
    (length (kinds_of c.self.inside.nodes.now)) (number_of c.in_ok-last.last)
    (option_map number_of c.self.inside.front) (option_map number_of c.self.inside.back)
    (all_next c.self.inside.nodes.now.items.items) (ap (option_map number_of) c.in_ok-last.was) c.if-is_at.ensures
    c.self.invariant)

pub previous_sibling-self-inside-requires : goal.previous_sibling-self-inside-requires
previous_sibling-self-inside-requires c = end_within (links_of c.self.inside.nodes.now)
    (length (kinds_of c.self.inside.nodes.now)) (number_of c.in_ok-last.last)
    (option_map number_of c.self.inside.front) (option_map number_of c.self.inside.back)
    (inr (ap (option_map number_of) c.in_ok-last.was)) c.self.invariant

pub invariant_of-self-2 : goal.invariant_of-self-2
invariant_of-self-2 c = subst (λ o. IsLeft (links_of c.self.inside.nodes.now)
    (length (kinds_of c.self.inside.nodes.now)) (option_map number_of c.self.inside.front) o)
    (sym c.previous_sibling-self-inside.ensures)
    (last_of_more (links_of c.self.inside.nodes.now)
    (length (kinds_of c.self.inside.nodes.now)) (number_of c.in_ok-last.last)
    (option_map number_of c.self.inside.front) (option_map number_of c.self.inside.back)
    (all_next c.self.inside.nodes.now.items.items) (ap (option_map number_of) c.in_ok-last.was) c.if-is_at.ensures
    c.self.invariant).left

pub returns-clause-steps : goal.returns-clause-steps
returns-clause-steps c = sym c.self.view_is ∙ ((last_of_more (links_of c.self.inside.nodes.now)
    (length (kinds_of c.self.inside.nodes.now)) (number_of c.in_ok-last.last)
    (option_map number_of c.self.inside.front) (option_map number_of c.self.inside.back)
    (all_next c.self.inside.nodes.now.items.items) (ap (option_map number_of) c.in_ok-last.was) c.if-is_at.ensures
    c.self.invariant).gives
    ∙ ap (λ o. span (links_of c.self.inside.nodes.now).next
    (length (links_of c.self.inside.nodes.now).next) (option_map number_of c.self.inside.front) o ++
    (number_of c.in_ok-last.last) ∷ [])
    (sym c.previous_sibling-self-inside.ensures))

pub returns-clause-goes : goal.returns-clause-goes
returns-clause-goes c = goes_last number_of _ (λ _. tt) _ _ c.in_ok-last.last
    (sym c.self.view_is ∙ ((last_of_more (links_of c.self.inside.nodes.now)
    (length (kinds_of c.self.inside.nodes.now)) (number_of c.in_ok-last.last)
    (option_map number_of c.self.inside.front) (option_map number_of c.self.inside.back)
    (all_next c.self.inside.nodes.now.items.items) (ap (option_map number_of) c.in_ok-last.was) c.if-is_at.ensures
    c.self.invariant).gives
    ∙ ap (λ o. span (links_of c.self.inside.nodes.now).next
    (length (links_of c.self.inside.nodes.now).next) (option_map number_of c.self.inside.front) o ++
    (number_of c.in_ok-last.last) ∷ [])
    (sym c.previous_sibling-self-inside.ensures)))
