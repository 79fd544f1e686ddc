use Rattle.std.proofs.Common.{ap, sym, ◌∙◌}
use Rattle.std.specs.Prelude.{Some}
use Rattle.tree_forest.specs.Trees.{trees}
use Rattle.html_render_dom.specs.ChildNodes.{children_left}
use Rattle.html_render_dom.specs.Numbers.{number_of}
use Rattle.render_conversion.specs.Titles.{title_of}
use Rattle.render_conversion.proofs.TitleLemmas.{title_after, title_here}
use Rattle.render_conversion.proofs.titles.title_of.Goals as goal

pub children-preserved : goal.children-preserved
children-preserved c =
    sym (title_after c.args.dom.now.forest (children_left c.children.children) (number_of c.in-Some.child)
    (children_left c.next.new.self)
    (λ n ns. c.a_tree_goes_one_step_on.ensures.first c.args.dom.now.forest n ns c.requires) c.in-Some.ensures.steps
    (sym c.is_title.ensures ∙ c.if-is_title.false))
    ∙ c.children.invariant

pub returns-then-is_title : goal.returns-then-is_title
returns-then-is_title c =
    ap Some c.in_ok-text_in.ensures
    ∙ (sym (title_here c.args.dom.now.forest (children_left c.children.children) (number_of c.in-Some.child)
    (children_left c.next.new.self)
    (λ n ns. c.a_tree_goes_one_step_on.ensures.first c.args.dom.now.forest n ns c.requires) c.in-Some.ensures.steps
    (sym c.is_title.ensures ∙ c.if-is_title.true))
    ∙ c.children.invariant)

pub returns : goal.returns
returns c =
    sym (ap (λ l. title_of (trees c.args.dom.now.forest l)) c.in_default.ensures.steps.0
    ∙ ap title_of (c.a_tree_goes_one_step_on.ensures.none c.args.dom.now.forest))
    ∙ c.children.invariant
