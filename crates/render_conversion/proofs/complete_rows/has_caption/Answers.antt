use Rattle.std.proofs.Common.{ap, sym, ◌∙◌}
use Rattle.tree_forest.specs.Trees.{trees}
use Rattle.html_render_dom.specs.ChildNodes.{children_left}
use Rattle.html_render_dom.specs.Numbers.{number_of}
use Rattle.render_conversion.specs.CompleteRows.{has_caption}
use Rattle.render_conversion.proofs.CompleteLemmas.{caption_here}
use Rattle.render_conversion.proofs.complete_rows.has_caption.Goals as goal

pub children-preserved : goal.children-preserved
children-preserved c =
    sym (caption_here c.args.dom.now.forest (children_left c.children.children) (number_of c.in-Some.child)
    (children_left c.next.new.self) _
    (λ n ns. c.a_tree_goes_one_step_on.ensures.first c.args.dom.now.forest n ns c.requires) c.in-Some.ensures.steps
    (sym c.is_element.ensures ∙ c.if-is_element.false))
    ∙ c.children.invariant

pub returns-then-is_element : goal.returns-then-is_element
returns-then-is_element c =
    sym (caption_here c.args.dom.now.forest (children_left c.children.children) (number_of c.in-Some.child)
    (children_left c.next.new.self) _
    (λ n ns. c.a_tree_goes_one_step_on.ensures.first c.args.dom.now.forest n ns c.requires) c.in-Some.ensures.steps
    (sym c.is_element.ensures ∙ c.if-is_element.true))
    ∙ c.children.invariant

pub returns : goal.returns
returns c =
    sym (ap (λ l. has_caption (trees c.args.dom.now.forest l)) c.in_default.ensures.steps.0
    ∙ ap has_caption (c.a_tree_goes_one_step_on.ensures.none c.args.dom.now.forest))
    ∙ c.children.invariant
