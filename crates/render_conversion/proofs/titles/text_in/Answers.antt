use Rattle.std.proofs.Common.{◌∙◌}
use Rattle.std.proofs.lemmas.Str.{chars-nil}
use Rattle.tree_forest.specs.Trees.{trees}
use Rattle.tree_forest.specs.Forest.{children_at}
use Rattle.html_render_dom.specs.ChildNodes.{children_left}
use Rattle.html_render_dom.specs.Numbers.{number_of}
use Rattle.render_conversion.specs.Titles.{text_of}
use Rattle.render_conversion.proofs.TitleLemmas.{fewer, next_text, start_text, whole_text}
use Rattle.render_conversion.proofs.titles.text_in.Goals as goal

pub nodes-init : goal.nodes-init
nodes-init c =
    start_text c.args.dom.now.forest (number_of c.args.node) c.in_ok-text.text (children_left c.children.result)
    c.push_all.new.self c.new-waiting.result (c.in_ok-text.ensures ∙ chars-nil) c.in_ok-push_all.ensures
    c.new-waiting.ensures c.children.ensures

pub nodes-preserved : goal.nodes-preserved
nodes-preserved c =
    next_text c.args.dom.now.forest
    (text_of (trees c.args.dom.now.forest (children_at (number_of c.args.node) c.args.dom.now.forest)))
    c.nodes.text c.push_own_text.new.text c.nodes.waiting c.pop.new.self c.push_all-in-Some.new.self
    c.push_all-in-Some-2.new.self (children_left c.in-Some.row.others) c.in-Some.row.first
    (children_left c.children-in-Some.result)
    (λ n ns. c.a_tree_goes_one_step_on.ensures.first c.args.dom.now.forest n ns c.requires)
    (c.trees_stand_in_order.ensures c.args.dom.now.forest) c.in-Some.ensures c.in_ok-push_all-2.ensures
    c.children-in-Some.ensures c.in_ok-push_all-3.ensures c.in_ok-push_own_text.ensures
    c.nodes.invariant

pub nodes-smaller : goal.nodes-smaller
nodes-smaller c =
    fewer c.args.dom.now.forest c.nodes.waiting c.pop.new.self c.push_all-in-Some.new.self
    c.push_all-in-Some-2.new.self (children_left c.in-Some.row.others) c.in-Some.row.first
    (children_left c.children-in-Some.result)
    (λ n ns. c.a_tree_goes_one_step_on.ensures.first c.args.dom.now.forest n ns c.requires)
    (c.trees_stand_in_order.ensures c.args.dom.now.forest) c.in-Some.ensures c.in_ok-push_all-2.ensures
    c.children-in-Some.ensures c.in_ok-push_all-3.ensures

pub returns : goal.returns
returns c =
    whole_text c.args.dom.now.forest
    (text_of (trees c.args.dom.now.forest (children_at (number_of c.args.node) c.args.dom.now.forest)))
    c.nodes.text c.nodes.waiting c.in_default.ensures
    (c.a_tree_goes_one_step_on.ensures.none c.args.dom.now.forest)
    c.nodes.invariant
