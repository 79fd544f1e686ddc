use Rattle.std.proofs.Common.{inl, sym, ap, ◌∙◌, ◌∷◌, subst, length}
use Rattle.html_render_dom.specs.Nodes.{kinds_of, links_of}
use Rattle.html_render_dom.specs.Spans.{IsLeft, span}
use Rattle.std.specs.Prelude.{option_map}
use Rattle.html_render_dom.specs.Numbers.{number_of}
use Rattle.html_render_dom.proofs.SpanSteps.{all_next, end_within, first_alone, first_of_more, goes_first}
use Rattle.html_render_dom.proofs.child_nodes.ChildNodesIterator.next.Goals as goal

pub returns-then-is_at-clause-steps : goal.returns-then-is_at-clause-steps
returns-then-is_at-clause-steps c = sym c.self.view_is ∙ first_alone (links_of c.self.inside.nodes.now)
    (length (kinds_of c.self.inside.nodes.now)) (number_of c.in_ok-first.first)
    (option_map number_of c.self.inside.front) (option_map number_of c.self.inside.back)
    (all_next c.self.inside.nodes.now.items.items) (ap (option_map number_of) c.in_ok-first.was) c.if-is_at.ensures
    c.self.invariant

pub returns-then-is_at-clause-goes : goal.returns-then-is_at-clause-goes
returns-then-is_at-clause-goes c = goes_first number_of _ (λ _. tt) _ _ c.in_ok-first.first
    (sym c.self.view_is ∙ first_alone (links_of c.self.inside.nodes.now)
    (length (kinds_of c.self.inside.nodes.now)) (number_of c.in_ok-first.first)
    (option_map number_of c.self.inside.front) (option_map number_of c.self.inside.back)
    (all_next c.self.inside.nodes.now.items.items) (ap (option_map number_of) c.in_ok-first.was) c.if-is_at.ensures
    c.self.invariant)

pub next_sibling-self-inside-requires : goal.next_sibling-self-inside-requires
next_sibling-self-inside-requires c = end_within (links_of c.self.inside.nodes.now)
    (length (kinds_of c.self.inside.nodes.now)) (number_of c.in_ok-first.first)
    (option_map number_of c.self.inside.front) (option_map number_of c.self.inside.back)
    (inl (ap (option_map number_of) c.in_ok-first.was)) c.self.invariant

pub invariant_of-self-2 : goal.invariant_of-self-2
invariant_of-self-2 c = subst (λ o. IsLeft (links_of c.self.inside.nodes.now)
    (length (kinds_of c.self.inside.nodes.now)) o (option_map number_of c.self.inside.back))
    (sym c.next_sibling-self-inside.ensures)
    (first_of_more (links_of c.self.inside.nodes.now)
    (length (kinds_of c.self.inside.nodes.now)) (number_of c.in_ok-first.first)
    (option_map number_of c.self.inside.front) (option_map number_of c.self.inside.back)
    (all_next c.self.inside.nodes.now.items.items) (ap (option_map number_of) c.in_ok-first.was) c.if-is_at.ensures
    c.self.invariant).left

pub returns-clause-steps : goal.returns-clause-steps
returns-clause-steps c = sym c.self.view_is ∙ ((first_of_more (links_of c.self.inside.nodes.now)
    (length (kinds_of c.self.inside.nodes.now)) (number_of c.in_ok-first.first)
    (option_map number_of c.self.inside.front) (option_map number_of c.self.inside.back)
    (all_next c.self.inside.nodes.now.items.items) (ap (option_map number_of) c.in_ok-first.was) c.if-is_at.ensures
    c.self.invariant).gives
    ∙ ap (λ o. (number_of c.in_ok-first.first) ∷ span (links_of c.self.inside.nodes.now).next
    (length (links_of c.self.inside.nodes.now).next) o (option_map number_of c.self.inside.back))
    (sym c.next_sibling-self-inside.ensures))

pub returns-clause-goes : goal.returns-clause-goes
returns-clause-goes c = goes_first number_of _ (λ _. tt) _ _ c.in_ok-first.first
    (sym c.self.view_is ∙ ((first_of_more (links_of c.self.inside.nodes.now)
    (length (kinds_of c.self.inside.nodes.now)) (number_of c.in_ok-first.first)
    (option_map number_of c.self.inside.front) (option_map number_of c.self.inside.back)
    (all_next c.self.inside.nodes.now.items.items) (ap (option_map number_of) c.in_ok-first.was) c.if-is_at.ensures
    c.self.invariant).gives
    ∙ ap (λ o. (number_of c.in_ok-first.first) ∷ span (links_of c.self.inside.nodes.now).next
    (length (links_of c.self.inside.nodes.now).next) o (option_map number_of c.self.inside.back))
    (sym c.next_sibling-self-inside.ensures)))
